-- The pages of a new ring.
use Rattle.std.specs.Prelude.{◌≡◌, ℕ, List}
use Rattle.link_marks.specs.FirstLinks.{EachAt}

-- each position has the page of its number
abbrev pub AreFirstPages : List ℕ → Type 0
AreFirstPages order = EachAt (λ position page. page ≡ position) order
