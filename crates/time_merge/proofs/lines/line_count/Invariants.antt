use Rattle.std.proofs.Common.{◌≤◌, take}
use Rattle.time_merge.proofs.Counts.{count_of}
use Rattle.time_merge.proofs.lines.line_count.Given as goal

abbrev pub invariant-loop-parcel : goal.invariant-loop-parcel
invariant-loop-parcel l = l.count ≤ count_of (take l.parcel-index l.parcel-items)
