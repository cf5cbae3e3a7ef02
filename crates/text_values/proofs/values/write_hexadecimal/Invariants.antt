use Rattle.std.proofs.Common.{◌≡◌, ◌+◌, ◌^◌, ◌<◌, false, drop}
use Rattle.std.specs.Fmt.{digits, digits_onto}
use Rattle.text_values.proofs.values.write_hexadecimal.Given as goal

abbrev pub invariant-loop-left : goal.invariant-loop-left
invariant-loop-left l =
    (l.at < 16) × (l.left < 16 ^ (l.at + 1))
    × (digits_onto (l.at + 49) 16 false l.left (drop (l.at + 1) l.place) ≡ digits 16 false l.number)

abbrev pub decreases-loop-left : goal.decreases-loop-left
decreases-loop-left l = l.left
