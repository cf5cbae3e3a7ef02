use Rattle.std.proofs.Common.{◌≡◌, ◌++◌, map}
use Rattle.page_borrow.specs.Entries.{numbered_record}
use Rattle.time_merge.specs.LineOrder.{line_of}
use Rattle.time_merge.specs.Lines.{line_seen}
use Rattle.time_merge.proofs.lines.put_lines_of.Given as goal

abbrev pub invariant-loop-entry : goal.invariant-loop-entry
invariant-loop-entry l =
    map line_seen l.lines.items
    ≡ map line_seen l.initial.lines.items ++ map (line_of l.cpu.0) (map numbered_record l.yielded)
