-- The links of a new ring.
use Rattle.std.specs.Prelude.{◌≡◌, ℕ, ◌+◌, ◌%◌, ◌<◌, List, Some}
use Rattle.std.specs.List.{slice_get}
use Rattle.trace_model.specs.Links.{Link, normal_link, header_link}

-- each element of the list, at its index
abbrev pub EachAt : {X : Type 0} → (ℕ → X → Type 0) → List X → Type 0
EachAt {X} P xs = (i : ℕ) (x : X) → slice_get xs i ≡ Some x → P i x

-- The link into a position leads to the page of its number, and states the fill of the first round there; the first
-- fill is the head.
pub record IsFirstLink (n start position : ℕ) (link : Link) : Type 0 where
  pub first : position ≡ start % n → link ≡ header_link position start
  pub others : (f : ℕ) → start < f → f < start + n → f % n ≡ position → link ≡ normal_link position f
