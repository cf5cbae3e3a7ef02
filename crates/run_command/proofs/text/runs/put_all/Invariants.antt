use Rattle.std.proofs.Common.{List, IfSome, take}
use Rattle.trace_model.specs.Parcel.{Parcel}
use Rattle.collector_text.specs.Prints.{StandsBetween}
use Rattle.collector_text.proofs.Appended.{ArePut}
use Rattle.trace_run.specs.ledgers.Audit.{taken_in}
use Rattle.run_command.specs.text.Printing.{AuditedShown, IsAuditedPrintOf, printed_audited}
use Rattle.run_command.proofs.text.runs.put_all.Given as goal

abbrev pub invariant-loop-i : goal.invariant-loop-i
invariant-loop-i l = record {
  put : ArePut (List Parcel) AuditedShown (IsAuditedPrintOf (taken_in l.ledgers))
      (λ pair. printed_audited pair.0 pair.1)
      (take l.i l.collectors) l.initial.out.items l.out.items;
  last : IfSome l.before (λ b. StandsBetween b.now l.out.items l.span.start l.span.end);
}
