use Rattle.std.proofs.Common.{List}
use Rattle.trace_model.specs.Parcel.{Parcel}
use Rattle.text_values.proofs.Behind.{behind_behind}
use Rattle.collector_text.proofs.Appended.{put_none, put_more, put_all}
use Rattle.trace_run.specs.ledgers.Audit.{taken_in}
use Rattle.run_command.specs.text.Printing.{AuditedShown, IsAuditedPrintOf, printed_audited}
use Rattle.run_command.proofs.text.runs.put_all.Goals as goal

pub loop-i-init : goal.loop-i-init
loop-i-init c = record {
  put = put_none (List Parcel) AuditedShown (IsAuditedPrintOf (taken_in c.args.ledgers.now))
      (λ pair. printed_audited pair.0 pair.1) c.args.out.now.items;
  last = tt;
}

pub loop-i-preserved : goal.loop-i-preserved
loop-i-preserved c =
    let put = c.in_ok-span.ensures.reported in
    record {
      put = put_more (List Parcel) AuditedShown (IsAuditedPrintOf (taken_in c.args.ledgers.now))
          (λ pair. printed_audited pair.0 pair.1) c.args.collectors.now c.loop-i.i c.index-collectors-i.result
          c.args.out.now.items c.loop-i.out.items c.put_audited.new.out.items put.0 c.loop-i-test.true
          c.index-collectors-i.is c.loop-i.invariant.put put.1 put.2;
      last = c.in_ok-span.ensures.below;
    }

pub returns-in_err-span-clause-behind : goal.returns-in_err-span-clause-behind
returns-in_err-span-clause-behind c = behind_behind c.args.out.now.items c.loop-i.out.items c.put_audited.new.out.items
    (_, c.loop-i.invariant.put.text) c.put_audited.ensures.behind

pub returns-clause-behind : goal.returns-clause-behind
returns-clause-behind c = (_, c.loop-i.invariant.put.text)

pub returns-clause-text : goal.returns-clause-text
returns-clause-text c = put_all (List Parcel) AuditedShown (IsAuditedPrintOf (taken_in c.args.ledgers.now))
    (λ pair. printed_audited pair.0 pair.1) c.args.collectors.now c.loop-i.i c.args.out.now.items c.loop-i.out.items
    c.loop-i-test.false c.loop-i.invariant.put
