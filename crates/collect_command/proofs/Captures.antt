-- One capture more.
use Rattle.std.proofs.Common.{◌≡◌, ℕ, zero, suc, ◌+◌, List, [], ◌∷◌, ◌++◌, length, take, append_assoc}
use Rattle.std.proofs.Common.{append-nil, refl, sym, ap, ◌∙◌, subst, arith}
use Rattle.trace_model.specs.Parcel.{Parcel}
use Rattle.trace_model.specs.Collection.{Agree, IsSame}
use Rattle.trace_model.proofs.collections.Collections.{same_itself, same_same, same_joined}
use Rattle.trace_model.proofs.collections.Joined.{below_agrees}
use Rattle.capture.specs.Pages.{Page, parcels_from}
use Rattle.capture.specs.Rings.{parcels_of_captures}
use Rattle.capture.specs.declared.files.captured.CpuCapture.{CpuCapture}
use Rattle.capture.specs.files.Files.{ModelPart}
use Rattle.collect_command.specs.Gathered.{IsReadFrom, AreReadFrom}

-- the last of what was read, and its pages
pub record LastRead (parts : List ModelPart) (cpu : ℕ) (front : List CpuCapture) (found : CpuCapture)
    (captures : List (List Page)) : Type 0 where
  pub own : List Page
  pub others : List (List Page)
  pub captures_are : captures ≡ others ++ own ∷ []
  pub front_read : AreReadFrom parts cpu front others
  pub last_read : IsReadFrom parts (cpu + length others) found own

pub last_read : (parts : List ModelPart) (cpu : ℕ) (front : List CpuCapture) (found : CpuCapture)
    (captures : List (List Page))
    → AreReadFrom parts cpu (front ++ found ∷ []) captures → LastRead parts cpu front found captures
last_read parts cpu [] found [] read = absurd read
last_read parts cpu [] found (own ∷ []) read = record {
  own = own;
  others = [];
  captures_are = refl;
  front_read = tt;
  last_read = subst (λ (n : ℕ). IsReadFrom parts n found own) (let e : cpu ≡ cpu + 0 = omega arith in e) read.0;
}
last_read parts cpu [] found (own ∷ other ∷ captures) read = absurd read.1
last_read parts cpu (first ∷ front) found [] read = absurd read
last_read parts cpu (first ∷ front) found (pages ∷ captures) read =
    let last = last_read parts (suc cpu) front found captures read.1 in
    record {
      own = last.own;
      others = pages ∷ last.others;
      captures_are = ap (λ (cs : List (List Page)). pages ∷ cs) last.captures_are;
      front_read = (read.0, last.front_read);
      last_read = subst (λ (n : ℕ). IsReadFrom parts n found last.own)
          (let e : suc cpu + length last.others ≡ cpu + suc (length last.others) = omega arith in e) last.last_read;
    }

-- the parcels of one capture more
parcels_more : (cpu : ℕ) (captures : List (List Page)) (own : List Page)
    → parcels_of_captures cpu (captures ++ own ∷ [])
    ≡ parcels_of_captures cpu captures ++ parcels_from (cpu + length captures) 0 0 own
parcels_more cpu [] own =
    append-nil (parcels_from cpu 0 0 own)
    ∙ ap (λ (n : ℕ). parcels_from n 0 0 own) (let e : cpu ≡ cpu + 0 = omega arith in e)
parcels_more cpu (pages ∷ captures) own =
    ap (λ (ps : List Parcel). parcels_from cpu 0 0 pages ++ ps) (parcels_more (suc cpu) captures own)
    ∙ sym (append_assoc (parcels_from cpu 0 0 pages) (parcels_of_captures (suc cpu) captures)
    (parcels_from (suc cpu + length captures) 0 0 own))
    ∙ ap (λ (n : ℕ). (parcels_from cpu 0 0 pages ++ parcels_of_captures (suc cpu) captures) ++ parcels_from n 0 0 own)
    (let e : suc cpu + length captures ≡ cpu + suc (length captures) = omega arith in e)

-- the parcels of captures, and those of one capture more
capture_beside : (joined added : List Parcel) (captures : List (List Page)) (own : List Page) (cpu : ℕ)
    → IsSame joined (parcels_of_captures 0 captures) → added ≡ parcels_from cpu 0 0 own → cpu ≡ 0 + length captures
    → IsSame (joined ++ added) (parcels_of_captures 0 (captures ++ own ∷ []))
capture_beside joined added captures own cpu same is cpu_is =
    let before = parcels_of_captures 0 captures in
    let own_is : added ≡ parcels_from (0 + length captures) 0 0 own =
    is ∙ ap (λ (n : ℕ). parcels_from n 0 0 own) cpu_is in
    let all : before ++ added ≡ parcels_of_captures 0 (captures ++ own ∷ []) =
    ap (λ (ps : List Parcel). before ++ ps) own_is ∙ sym (parcels_more 0 captures own) in
    subst (IsSame (joined ++ added)) all (same_joined joined added before added same (same_itself added))

-- a collector to which the parcels of one capture more are added
pub capture_added : (joined new added : List Parcel) (captures : List (List Page)) (own : List Page) (cpu : ℕ)
    → IsSame joined (parcels_of_captures 0 captures) → IsSame new (joined ++ added) → added ≡ parcels_from cpu 0 0 own
    → cpu ≡ 0 + length captures → IsSame new (parcels_of_captures 0 (captures ++ own ∷ []))
capture_added joined new added captures own cpu same union is cpu_is =
    same_same new (joined ++ added) (parcels_of_captures 0 (captures ++ own ∷ [])) union
    (capture_beside joined added captures own cpu same is cpu_is)

-- its parcels contradict none that the collector keeps
pub capture_agrees : (joined added : List Parcel) (captures : List (List Page)) (own : List Page) (cpu : ℕ)
    → IsSame joined (parcels_of_captures 0 captures) → added ≡ parcels_from cpu 0 0 own → cpu ≡ 0 + length captures
    → Agree (parcels_of_captures 0 (captures ++ own ∷ [])) → Agree (joined ++ added)
capture_agrees joined added captures own cpu same is cpu_is agree =
    below_agrees (joined ++ added) (parcels_of_captures 0 (captures ++ own ∷ []))
    (capture_beside joined added captures own cpu same is cpu_is).below agree

-- the pages of the first CPUs
pub front_read : (parts : List ModelPart) (cpu k : ℕ) (cpus : List CpuCapture) (captures : List (List Page))
    → AreReadFrom parts cpu cpus captures → AreReadFrom parts cpu (take k cpus) (take k captures)
front_read parts cpu zero cpus captures read = tt
front_read parts cpu (suc k) [] [] read = tt
front_read parts cpu (suc k) [] (own ∷ captures) read = absurd read
front_read parts cpu (suc k) (found ∷ cpus) [] read = absurd read
front_read parts cpu (suc k) (found ∷ cpus) (own ∷ captures) read =
    (read.0, front_read parts (suc cpu) k cpus captures read.1)

-- of nothing there are no pages
pub none_read : (parts : List ModelPart) (cpu : ℕ) (captures : List (List Page)) → AreReadFrom parts cpu [] captures
    → captures ≡ []
none_read parts cpu [] read = refl
none_read parts cpu (own ∷ captures) read = absurd read
