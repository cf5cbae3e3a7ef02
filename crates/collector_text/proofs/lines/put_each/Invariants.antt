use Rattle.std.proofs.Common.{◌≡◌, ◌++◌, flat_map}
use Rattle.trace_model.specs.Sublist.{IsPrefix}
use Rattle.world_model.specs.Printing.{printed_line}
use Rattle.collector_text.proofs.lines.put_each.Given as goal

abbrev pub invariant-loop-line : goal.invariant-loop-line
invariant-loop-line l = record {
  text : l.out.items ++ flat_map printed_line l.line-iterator
      ≡ l.initial.out.items ++ flat_map printed_line l.initial.line-iterator;
  behind : IsPrefix l.initial.out.items l.out.items;
}
