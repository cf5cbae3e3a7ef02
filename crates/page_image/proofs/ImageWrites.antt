-- The image that is written, part by part.
use Rattle.std.proofs.Common.{◌≡◌, ℕ, ◌+◌, ◌-◌, ◌≤◌, List, [], ◌++◌, length, take, drop, replicate, sym, ap, ◌∙◌, arith}
use Rattle.std.proofs.Common.{append_assoc, length-append}
use Rattle.std.proofs.lemmas.List.{take_all, drop_at}
use Rattle.std.specs.Int.{to_le_bytes, w64}
use Rattle.trace_model.specs.Image.{le64, commit_word, commit_of, stored_count, image_of}
use Rattle.trace_model.proofs.images.ImageParts.{length-le64}
use Rattle.trace_model.proofs.images.Images.{length-image_of}

-- all that comes before the zeros
abbrev parts : ℕ → List ℕ → List ℕ → ℕ → List ℕ
parts time contents stored word = le64 time ++ (le64 word ++ (contents ++ stored))

length-parts : (time : ℕ) (contents stored : List ℕ) (word : ℕ)
    → length (parts time contents stored word) ≡ 16 + (length contents + length stored)
length-parts time contents stored word =
    omega (
      arith,
      length-append (le64 time) (le64 word ++ (contents ++ stored)),
      length-append (le64 word) (contents ++ stored),
      length-append contents stored,
      length-le64 time,
      length-le64 word,
    )

-- with zeros after them they are the image
parts-zeros : (time : ℕ) (contents stored zeros : List ℕ) (word : ℕ)
    → parts time contents stored word ++ zeros ≡ le64 time ++ (le64 word ++ (contents ++ (stored ++ zeros)))
parts-zeros time contents stored zeros word =
    append_assoc (le64 time) (le64 word ++ (contents ++ stored)) zeros
    ∙ ap (λ (b : List ℕ). le64 time ++ b) (append_assoc (le64 word) (contents ++ stored) zeros)
    ∙ ap (λ (b : List ℕ). le64 time ++ (le64 word ++ b)) (append_assoc contents stored zeros)

-- what is stored after the data fits in the page
stored_fits : (time : ℕ) (contents : List ℕ) (missed size : ℕ) → length contents ≤ size
    → length contents + length (stored_count contents missed size) ≤ size
stored_fits time contents missed size fits =
    let stored : List ℕ = stored_count contents missed size in
    let zeros : List ℕ = replicate (size - length contents - length stored) 0 in
    let word : ℕ = commit_word (commit_of contents missed size) in
    let whole = length-image_of time contents missed size fits in
    let same = ap length (parts-zeros time contents stored zeros word) in
    let split = length-append (parts time contents stored word) zeros in
    let front = length-parts time contents stored word in
    omega arith

-- the parts one after the other, and zeros up to the size
pub written-image_of : (time missed size len : ℕ) (contents empty one two three four final : List ℕ) → empty ≡ []
    → one ≡ empty ++ to_le_bytes w64 time → two ≡ one ++ to_le_bytes w64 (commit_word (commit_of contents missed size))
    → three ≡ two ++ contents
    → four ≡ three ++ stored_count contents missed size → len ≡ length four
    → final ≡ take (16 + size) four ++ replicate (16 + size - len) 0 → length contents ≤ size
    → final ≡ image_of time contents missed size
unfolding le64
written-image_of time missed size len contents empty one two three four final none first second third fourth len_is is
    fits =
    let stored : List ℕ = stored_count contents missed size in
    let word : ℕ = commit_word (commit_of contents missed size) in
    let all : four ≡ parts time contents stored word =
    fourth
    ∙ ap (λ (b : List ℕ). b ++ stored)
    (third
    ∙ ap (λ (b : List ℕ). b ++ contents)
    (second ∙ ap (λ (b : List ℕ). b ++ le64 word) (first ∙ ap (λ (b : List ℕ). b ++ le64 time) none)))
    ∙ ap (λ (b : List ℕ). b ++ stored) (append_assoc (le64 time) (le64 word) contents)
    ∙ append_assoc (le64 time) (le64 word ++ contents) stored
    ∙ ap (λ (b : List ℕ). le64 time ++ b) (append_assoc (le64 word) contents stored) in
    let size_is : length four ≡ 16 + (length contents + length stored) =
    ap length all ∙ length-parts time contents stored word in
    let room = stored_fits time contents missed size fits in
    let zeros : 16 + size - len ≡ size - length contents - length stored = omega arith in
    is ∙ ap (λ (b : List ℕ). b ++ replicate (16 + size - len) 0) (take_all (16 + size) four (omega arith) ∙ all)
    ∙ (λ i. parts time contents stored word ++ replicate (zeros i) 0)
    ∙ parts-zeros time contents stored (replicate (size - length contents - length stored) 0) word

-- what follows the data
pub behind-image_of : (time : ℕ) (contents : List ℕ) (missed size : ℕ)
    → drop (16 + length contents) (image_of time contents missed size)
    ≡ stored_count contents missed size
    ++ replicate (size - length contents - length (stored_count contents missed size)) 0
behind-image_of time contents missed size =
    let word : ℕ = commit_word (commit_of contents missed size) in
    let behind : List ℕ =
    stored_count contents missed size
    ++ replicate (size - length contents - length (stored_count contents missed size)) 0 in
    let whole : image_of time contents missed size ≡ (le64 time ++ (le64 word ++ contents)) ++ behind =
    sym
    (append_assoc (le64 time) (le64 word ++ contents) behind
    ∙ ap (λ (b : List ℕ). le64 time ++ b) (append_assoc (le64 word) contents behind)) in
    ap (drop (16 + length contents)) whole
    ∙ drop_at (le64 time ++ (le64 word ++ contents)) behind (16 + length contents)
    (omega (
      arith,
      length-append (le64 time) (le64 word ++ contents),
      length-append (le64 word) contents,
      length-le64 time,
      length-le64 word,
    ))
