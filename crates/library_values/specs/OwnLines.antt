-- Lines whose bytes are in one buffer.
use Rattle.std.specs.Prelude.{ℕ, ◌+◌, ◌≤◌, List, take, drop}
use Rattle.library_values.specs.declared.own_lines.LinePlace.{LinePlace}

module _ {H : Type 0} where
  -- the head of a line, and its bytes, which are at this place of the buffer
  abbrev pub line_in : List ℕ → LinePlace H → H × List ℕ
  line_in bytes place = (place.head, take place.len (drop place.start bytes))

  -- the place is within the first `count` bytes
  abbrev pub StandsIn : ℕ → LinePlace H → Type 0
  StandsIn count place = place.start + place.len ≤ count
