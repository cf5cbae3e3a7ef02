-- The payloads of the frames on the stack, which are kept with the top one's last and shown with it first.
use Rattle.std.proofs.Common.{◌≡◌, ℕ, List, [], ◌∷◌, ◌++◌, reverse, map, ap, ◌∙◌}
use Rattle.std.proofs.lemmas.List.{map-append, reverse-append}

-- one more
pub pushed_first : {B : Type 0} (f : B → List ℕ) (items : List B) (x : B)
    → reverse (map f (items ++ x ∷ [])) ≡ f x ∷ reverse (map f items)
pushed_first f items x = ap reverse (map-append f items (x ∷ [])) ∙ reverse-append (map f items) (f x ∷ [])
