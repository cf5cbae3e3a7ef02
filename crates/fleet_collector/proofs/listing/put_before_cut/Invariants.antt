use Rattle.std.proofs.Common.{◌≡◌, ◌++◌, map}
use Rattle.page_borrow.specs.Entries.{numbered_record}
use Rattle.fleet_collector.specs.Lines.{line_seen, line_of}
use Rattle.fleet_collector.proofs.BeforeCut.{AllBelowCut}
use Rattle.fleet_collector.proofs.listing.put_before_cut.Given as goal

abbrev pub invariant-loop-entry : goal.invariant-loop-entry
invariant-loop-entry l = record {
  put : map line_seen l.lines.items
      ≡ map line_seen l.initial.lines.items ++ map (line_of l.stream.0 l.cpu.0) (map numbered_record l.yielded);
  low : AllBelowCut (map numbered_record l.yielded) l.cut.0;
}
