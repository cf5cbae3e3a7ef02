-- Links that differ, position by position.
use Rattle.std.proofs.Common.{◌≡◌, ℕ, ◌≤◌, min, false, List, [], ◌∷◌, length, map, drop, refl, inl, inr, ◌⊎◌, arith}
use Rattle.std.proofs.lemmas.List.{drop_all}
use Rattle.trace_model.specs.Links as model
use Rattle.link_marks.specs.declared.link.Link.{Link}
use Rattle.link_marks.specs.ModelLinks.{link_of}
use Rattle.step_model.specs.StepTexts.{links_differ}

none_new : (olds : List model.Link) → links_differ olds [] ≡ false
none_new [] = refl
none_new (old ∷ olds) = refl

none_left : (olds news : List Link) (position : ℕ) → (length olds ≤ position) ⊎ (length news ≤ position)
    → links_differ (map link_of (drop position olds)) (map link_of (drop position news)) ≡ false
none_left olds news position (inl short) = rw (drop_all position olds short) refl
none_left olds news position (inr short) =
    rw (drop_all position news short) (none_new (map link_of (drop position olds)))

-- after the end of the shorter of two lists of links none differs
pub none_behind : (olds news : List Link) (position : ℕ) → min (length olds) (length news) ≤ position
    → links_differ (map link_of (drop position olds)) (map link_of (drop position news)) ≡ false
none_behind olds news position past =
    let short : (length olds ≤ position) ⊎ (length news ≤ position) = grind arith in
    none_left olds news position short
