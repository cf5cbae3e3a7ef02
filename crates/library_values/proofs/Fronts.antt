-- Bytes that are put one after the other to the front of a buffer.
use Rattle.std.proofs.Common.{◌≡◌, ℕ, ◌+◌, ◌-◌, ◌≤◌, Bool, true, cond, List, [], ◌++◌, length, take, drop, replicate}
use Rattle.std.proofs.Common.{sym, ap, ◌∙◌, arith, append_assoc, length-append}
use Rattle.std.specs.Int.{to_le_bytes, w64}
use Rattle.std.proofs.lemmas.List.{drop-drop, take-append-drop, length-replicate}
use Rattle.trace_model.specs.Image.{le64, stores_count, stored_count, commit_of, commit_word}
use Rattle.trace_model.proofs.images.ImageParts.{length-le64}
use Rattle.trace_model.proofs.images.Images.{length-image_of}

-- more bytes after those that were put are put after what was before them
put_before : (xs front bytes rest : List ℕ) → xs ≡ front ++ bytes → xs ++ rest ≡ front ++ (bytes ++ rest)
put_before xs front bytes rest is = ap (λ (l : List ℕ). l ++ rest) is ∙ append_assoc front bytes rest

-- what follows stays, and so does what follows after more
pub stays_after : (n m : ℕ) (xs ys : List ℕ) → n ≤ m → drop n xs ≡ drop n ys → drop m xs ≡ drop m ys
stays_after n m xs ys le is =
    let sum : n + (m - n) ≡ m = omega arith in
    ap (λ (k : ℕ). drop k xs) (sym sum) ∙ sym (drop-drop (m - n) n xs) ∙ ap (drop (m - n)) is ∙ drop-drop (m - n) n ys
    ∙ ap (λ (k : ℕ). drop k ys) sum

-- the whole is its front and what stayed
pub whole_is : (n : ℕ) (xs ys bytes : List ℕ) → take n xs ≡ bytes → drop n xs ≡ drop n ys → n ≡ length bytes
    → xs ≡ bytes ++ drop (length bytes) ys
whole_is n xs ys bytes front behind len =
    sym (take-append-drop n xs) ∙ ap (λ (l : List ℕ). l ++ drop n xs) front ∙ ap (λ (l : List ℕ). bytes ++ l) behind
    ∙ ap (λ (k : ℕ). bytes ++ drop k ys) len

-- ---- the count

pub stored_is : (contents : List ℕ) (missed size : ℕ) → stores_count contents missed size ≡ true
    → stored_count contents missed size ≡ to_le_bytes w64 missed
unfolding le64
stored_is contents missed size is = ap (λ (b : Bool). cond b (le64 missed) []) is

number_len : (n : ℕ) → length (to_le_bytes w64 n) ≡ 8
unfolding le64
number_len n = length-le64 n

pub stored_len : (contents : List ℕ) (missed size : ℕ) → stores_count contents missed size ≡ true
    → length (stored_count contents missed size) ≡ 8
stored_len contents missed size is = ap length (stored_is contents missed size is) ∙ number_len missed

-- what is stored after the data fits in the page
pub stored_fits : (contents : List ℕ) (missed size : ℕ) → length contents ≤ size
    → length contents + length (stored_count contents missed size) ≤ size
stored_fits contents missed size fits =
    let stored : List ℕ = stored_count contents missed size in
    let rest : ℕ = size - length contents - length stored in
    let zeros : List ℕ = replicate rest 0 in
    let word : ℕ = commit_word (commit_of contents missed size) in
    omega (
      arith,
      length-image_of 0 contents missed size fits,
      length-append (le64 0) (le64 word ++ (contents ++ (stored ++ zeros))),
      length-append (le64 word) (contents ++ (stored ++ zeros)),
      length-append contents (stored ++ zeros),
      length-append stored zeros,
      length-replicate {A = ℕ} rest 0,
      length-le64 0,
      length-le64 word,
    )

-- ---- all parts

-- six numbers, the data, the count if it is stored, and zeros, each put after the last one
pub parts_are : (cpu fill first missed time word : ℕ)
    (contents stored zeros empty one two three four five six seven eight nine : List ℕ) (end behind n : ℕ)
    → take 8 one ≡ take 0 empty ++ to_le_bytes w64 cpu → take 16 two ≡ take 8 one ++ to_le_bytes w64 fill
    → take 24 three ≡ take 16 two ++ to_le_bytes w64 first → take 32 four ≡ take 24 three ++ to_le_bytes w64 missed
    → take 40 five ≡ take 32 four ++ to_le_bytes w64 time → take 48 six ≡ take 40 five ++ to_le_bytes w64 word
    → take end seven ≡ take 48 six ++ contents
    → take behind eight ≡ take end seven ++ stored → take n nine ≡ take behind eight ++ zeros
    → take n nine
    ≡ le64 cpu
    ++ (le64 fill
    ++ (le64 first ++ (le64 missed ++ (le64 time ++ (le64 word ++ (contents ++ (stored ++ zeros)))))))
unfolding le64
parts_are cpu fill first missed time word contents stored zeros empty one two three four five six seven eight nine end
    behind n p1 p2 p3 p4 p5 p6 p7 p8 p9 =
    p9
    ∙ put_before (take behind eight) (take end seven) stored zeros p8
    ∙ put_before (take end seven) (take 48 six) contents _ p7
    ∙ put_before (take 48 six) (take 40 five) (to_le_bytes w64 word) _ p6
    ∙ put_before (take 40 five) (take 32 four) (to_le_bytes w64 time) _ p5
    ∙ put_before (take 32 four) (take 24 three) (to_le_bytes w64 missed) _ p4
    ∙ put_before (take 24 three) (take 16 two) (to_le_bytes w64 first) _ p3
    ∙ put_before (take 16 two) (take 8 one) (to_le_bytes w64 fill) _ p2
    ∙ put_before (take 8 one) (take 0 empty) (to_le_bytes w64 cpu) _ p1
