use Rattle.std.proofs.Common.{◌≡◌, map, take}
use Rattle.library_values.specs.CollectorLines.{kept_line}
use Rattle.library_values.proofs.listed_collector.listed.copied.Given as goal

abbrev pub invariant-loop-line : goal.invariant-loop-line
invariant-loop-line l = l.copies ≡ map kept_line (take l.line-index l.lines)
