use Rattle.std.proofs.Common.{List, IfSome, take}
use Rattle.trace_model.specs.Parcel.{Parcel}
use Rattle.world_model.specs.Printing.{Shown, printed_collector}
use Rattle.collector_text.specs.Prints.{IsPrintOf, StandsBetween}
use Rattle.collector_text.proofs.Appended.{ArePut}
use Rattle.collector_text.proofs.collectors.put_all.Given as goal

abbrev pub invariant-loop-i : goal.invariant-loop-i
invariant-loop-i l = record {
  put : ArePut (List Parcel) Shown IsPrintOf (λ pair. printed_collector pair.0 pair.1) (take l.i l.collectors)
      l.initial.out.items l.out.items;
  last : IfSome l.before (λ b. StandsBetween b.now l.out.items l.span.start l.span.end);
}
