-- The bytes of a page's parcel are those of the page without its unused room, and zeros.
use Rattle.std.proofs.Common.{◌≡◌, ℕ, ◌+◌, ◌-◌, ◌≤◌, Bool, true, false, cond, ltb, ◌&&◌, List, [], ◌++◌, length, take}
use Rattle.std.proofs.Common.{replicate, refl, ap, ◌∙◌, arith, append_assoc}
use Rattle.std.proofs.lemmas.Bool.{le-leb, lt-leb}
use Rattle.std.proofs.Math.Seq.{take-append_seam}
use Rattle.trace_model.specs.Image.{le64, Commit, has_room, stores_count, stored_count, commit_word}
use Rattle.trace_model.proofs.images.ImageParts.{length-le64}
use Rattle.page_image.specs.Contents.{Contents}
use Rattle.page_numbers.specs.Written.{bytes_of_page}
use Rattle.library_values.specs.Used.{used_size, used_page}
use Rattle.library_values.proofs.Fronts.{stored_fits}

-- a count is stored in the room that is used exactly if it is stored
count_by : (contents : List ℕ) (missed : ℕ) (some room : Bool) → ltb 0 missed ≡ some
    → stores_count contents missed (length contents + length (cond (some && room) (le64 missed) [])) ≡ (some && room)
count_by contents missed false room is = ap (λ (b : Bool). b && has_room contents (length contents + 0)) is
count_by contents missed true true is =
    ap (λ (b : Bool). b && has_room contents (length contents + length (le64 missed))) is
    ∙ le-leb (length contents + 8) (length contents + length (le64 missed)) (omega (arith, length-le64 missed))
count_by contents missed true false is =
    ap (λ (b : Bool). b && has_room contents (length contents + 0)) is
    ∙ lt-leb (length contents + 8) (length contents + 0) (omega arith)

pub count_stays : (page : Contents) (missed : ℕ)
    → stores_count page.bytes missed (used_size page missed) ≡ stores_count page.bytes missed page.size
count_stays page missed = count_by page.bytes missed (ltb 0 missed) (has_room page.bytes page.size) refl

-- all parts of a page's parcel
parts : (cpu fill first missed time : ℕ) (contents : List ℕ) (stores : Bool) (room : ℕ) → List ℕ
parts cpu fill first missed time contents stores room =
    let word : Commit = record { size = length contents; is_stored = stores; is_missed = ltb 0 missed; ignored = 0 } in
    let stored : List ℕ = cond stores (le64 missed) [] in
    le64 cpu
    ++ (le64 fill
    ++ (le64 first
    ++ (le64 missed
    ++ (le64 time ++ (le64 (commit_word word) ++ (contents ++ (stored ++ replicate room 0)))))))

-- what follows a front follows its last part
after : (front rest zeros whole : List ℕ) → rest ++ zeros ≡ whole → (front ++ rest) ++ zeros ≡ front ++ whole
after front rest zeros whole is = append_assoc front rest zeros ∙ ap (λ (l : List ℕ). front ++ l) is

zeros_after : (cpu fill first missed time : ℕ) (contents : List ℕ) (stores : Bool) (room : ℕ)
    → parts cpu fill first missed time contents stores 0 ++ replicate room 0
    ≡ parts cpu fill first missed time contents stores room
unfolding parts
zeros_after cpu fill first missed time contents stores room =
    let zeros : List ℕ = replicate room 0 in
    after (le64 cpu) _ zeros _
    (after (le64 fill) _ zeros _
    (after (le64 first) _ zeros _ (after (le64 missed) _ zeros _ (after (le64 time) _ zeros _
    (after (le64 _) _ zeros _ (after contents _ zeros _ (after (cond stores (le64 missed) []) [] zeros zeros refl)))))))

pub zeros_follow : (cpu : ℕ) (page : Contents) (missed : ℕ) → length page.bytes ≤ page.size
    → bytes_of_page cpu (used_page page missed) missed ++ replicate (page.size - used_size page missed) 0
    ≡ bytes_of_page cpu page missed
unfolding parts
zeros_follow cpu page missed fits =
    let stores : Bool = stores_count page.bytes missed page.size in
    let stored : ℕ = length (stored_count page.bytes missed page.size) in
    let none : used_size page missed - length page.bytes - stored ≡ 0 = omega arith in
    let rest : page.size - used_size page missed ≡ page.size - length page.bytes - stored =
    omega (arith, stored_fits page.bytes missed page.size fits) in
    let form : Bool → ℕ → List ℕ = parts cpu page.fill page.first missed page.time page.bytes in
    ap
    (λ (b : Bool).
    form b (used_size page missed - length page.bytes - length (cond b (le64 missed) []))
    ++ replicate (page.size - used_size page missed) 0) (count_stays page missed)
    ∙ ap (λ (k : ℕ). form stores k ++ replicate (page.size - used_size page missed) 0) none
    ∙ zeros_after cpu page.fill page.first missed page.time page.bytes stores (page.size - used_size page missed)
    ∙ ap (form stores) rest

-- the front of what is put one after the other
pub front_is : (used zeros rest : List ℕ) (n : ℕ) (all : List ℕ) → all ≡ (used ++ zeros) ++ rest → n ≡ length used
    → take n all ≡ used
front_is used zeros rest n all is len =
    ap (λ (l : List ℕ). take n l) (is ∙ append_assoc used zeros rest)
    ∙ ap (λ (k : ℕ). take k (used ++ (zeros ++ rest))) len ∙ take-append_seam used (zeros ++ rest)
