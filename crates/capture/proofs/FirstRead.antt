-- A file that is read into memory, piece by piece.
use Rattle.std.proofs.Common.{◌≡◌, ◌∙◌, ℕ, List, ◌++◌, ap, append_assoc, Option, Bool, true, false, refl}
use Rattle.std.specs.Io.KnownBytes.{Consumes}
use Rattle.std.proofs.KnownBytes.{Consumes-trans}

pub rest-more : (first file new part : List ℕ) (unread left after : Option (List ℕ))
    → (more : List ℕ) × (file ≡ first ++ more) × Consumes unread left more → new ≡ file ++ part
    → Consumes left after part
    → (more : List ℕ) × (new ≡ first ++ more) × Consumes unread after more
rest-more first file new part unread left after (more, is, taken) added took = (
  more ++ part,
  added ∙ ap (λ (xs : List ℕ). xs ++ part) is ∙ append_assoc first more part,
  Consumes-trans unread left after more part taken took,
)

-- a reader that has not failed
pub still-sound : (failed : Bool) → (failed ≡ true → false ≡ true) → failed ≡ false
still-sound true not = absurd (let e = not refl in cc)
still-sound false not = refl
