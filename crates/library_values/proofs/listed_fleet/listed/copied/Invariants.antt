use Rattle.std.proofs.Common.{◌≡◌, map, take}
use Rattle.library_values.specs.FleetLines.{kept_line}
use Rattle.library_values.proofs.listed_fleet.listed.copied.Given as goal

abbrev pub invariant-loop-line : goal.invariant-loop-line
invariant-loop-line l = l.copies ≡ map kept_line (take l.line-index l.lines)
