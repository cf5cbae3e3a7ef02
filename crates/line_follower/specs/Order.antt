-- The order of lines, and what is said of one that comes after another that belongs behind it.
use Rattle.std.specs.Prelude.{◌≡◌, false, Bool, if◌then◌else◌, List, [], ◌∷◌, All}
use Rattle.std.specs.Ordering.{nat_cmp, is_lt, ordering_then}
use Rattle.std.specs.declared.cmp.Ordering.{Ordering}
use Rattle.trace_model.specs.Listing.{Line as ListedLine}
use Rattle.line_follower.specs.declared.lines.Place.{Place}
use Rattle.line_follower.specs.declared.lines.Line.{Line}
use Rattle.line_follower.specs.declared.lines.Said.{Said}
use Rattle.line_follower.specs.declared.lines.Said.TheVariants.{InOrder, Late}

-- by moment, then by CPU, then by number
abbrev pub place_order : Place → Place → Ordering
place_order a b = ordering_then (nat_cmp a.moment.0 b.moment.0)
    (ordering_then (nat_cmp a.cpu.0 b.cpu.0) (nat_cmp a.number.0 b.number.0))

-- whether a place is before another
abbrev pub is_before : Place → Place → Bool
is_before a b = is_lt (place_order a b)

-- no line is before the place
abbrev pub NoneIsBefore : {T : Type 0} → List (Line T) → Place → Type 0
NoneIsBefore lines place = All (λ line. is_before line.place place ≡ false) lines

-- no line is before one that precedes it
abbrev pub AreInOrder : {T : Type 0} → List (Line T) → Type 0
AreInOrder [] = Unit {0}
AreInOrder (line ∷ lines) = NoneIsBefore lines line.place × AreInOrder lines

-- the line, as it is given out
abbrev pub line_of : {T : Type 0} → Said T → Line T
line_of (InOrder line) = line
line_of (Late line) = line

-- what is said of a line if the last place in the order of those that were given is this one
abbrev pub said_after : {T : Type 0} → Place → Line T → Said T
said_after last line = if is_before line.place last then Late line else InOrder line

-- the last of two places in the order
abbrev pub last_of : Place → Place → Place
last_of last place = if is_before place last then last else place

-- the line of a record without bytes that stands at this place, in a listing
abbrev pub place_line : Place → ListedLine
place_line place = record { moment = place.moment.0; cpu = place.cpu.0; number = place.number.0; bytes = [] }
