-- Two lists with the same CPUs.
use Rattle.std.proofs.Common.{◌≡◌, ◌+◌, ◌<◌, ◌++◌, ◌∷◌, [], ℕ, List, map, take, length, get_or, All, sym, ap, ap₂}
use Rattle.std.proofs.Common.{◌∙◌, subst, arith}
use Rattle.std.proofs.lemmas.List.{get_or-map, length-map, map_push, take_more}
use Rattle.std.proofs.lemmas.List.Elements.{All-map}

module _ {X Y Z : Type 0} (f : X → Z) (g : Y → Z) (xs : List X) (ys : List Y) (same : map f xs ≡ map g ys) where
  pub All-same : (P : Z → Type 0) → All (λ y. P (g y)) ys → All (λ x. P (f x)) xs
  All-same P all k d inside =
      let mapped = subst (All P) (sym same) (All-map P g ys all) in
      subst P (get_or-map f xs k d (f d) inside) (mapped k (f d) (omega (arith, inside, length-map xs f)))

-- one more of each list has the same CPU
module _ {X Y Z : Type 0} (f : X → Z) (g : Y → Z) where
  pub same_more : (olds news : List X) (x : X) (ys : List Y) (k : ℕ) (y : Y) → map f olds ≡ map g (take k ys)
      → news ≡ olds ++ x ∷ [] → f x ≡ g (get_or ys k y) → k < length ys → map f news ≡ map g (take (k + 1) ys)
  same_more olds news x ys k y so_far pushed same inside =
      ap (map f) pushed ∙ map_push f olds x
      ∙ ap₂ (λ (front : List Z) (last : Z). front ++ last ∷ []) so_far same
      ∙ sym (map_push g (take k ys) (get_or ys k y))
      ∙ ap (map g) (sym (take_more ys k y inside))
