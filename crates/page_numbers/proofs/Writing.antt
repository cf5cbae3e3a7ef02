-- The bytes of a parcel, part by part.
use Rattle.std.proofs.Common.{◌≡◌, ℕ, ◌+◌, ◌-◌, ◌≤◌, List, ◌++◌, length, replicate, arith, length-append, Result, Ok}
use Rattle.std.proofs.Common.{Err, IfOk, IfErr, OnOk}
use Rattle.trace_model.specs.Image.{le64, commit_word, commit_of, stored_count, filled, image_of}
use Rattle.trace_model.proofs.images.ImageParts.{length-le64}

-- an image that is as long as its page's size says holds all of the data
pub contents_fit : (time : ℕ) (contents : List ℕ) (missed size : ℕ)
    → length (image_of time contents missed size) ≡ 16 + size → length contents ≤ size
contents_fit time contents missed size whole =
    let word : ℕ = commit_word (commit_of contents missed size) in
    let stored : List ℕ = stored_count contents missed size in
    omega (
      arith,
      whole,
      length-append (le64 time) (le64 word ++ filled contents stored size),
      length-append (le64 word) (filled contents stored size),
      length-append contents (stored ++ replicate (size - length contents - length stored) 0),
      length-le64 time,
      length-le64 word,
    )

-- what holds of an answer with bytes, put together
pub each_reported : {A E : Type 0} (r : Result A E) (P : A → Type 0) (Q R : Type 0) (S : A → Type 0) → IfOk r P
    → OnOk r Q → OnOk r R → ((x : A) → P x → Q → R → S x) → IfOk r S
each_reported (Ok x) P Q R S one two three then = then x one two three
each_reported (Err e) P Q R S one two three then = tt

-- what holds of a fault, by what else does
pub fault_reported : {A E : Type 0} (r : Result A E) (P Q : E → Type 0) → IfErr r P → ((e : E) → P e → Q e) → IfErr r Q
fault_reported (Ok x) P Q one then = tt
fault_reported (Err e) P Q one then = then e one
