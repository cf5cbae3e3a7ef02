use Rattle.std.proofs.Common.{◌<◌, ⊎_elim, sym, subst, arith}
use Rattle.std.proofs.lemmas.Bool.{cases_lt}
use Rattle.page_numbers.specs.Parcels.{as_parcel}
use Rattle.collector.specs.Shown.{IsContentAt}
use Rattle.collector.specs.Listed.{GoOn}
use Rattle.collector.proofs.Stretches.{shown_no_record}
use Rattle.collector.proofs.RecordsLeft.{go_on}
use Rattle.collector.proofs.listed.next_kept.Goals as goal

pub returns-in-Some-clause-entries : goal.returns-in-Some-clause-entries
returns-in-Some-clause-entries c =
    let ps = c.args.collector.now in
    subst (λ es. GoOn ps c.args.cpu.0 es c.loop-at.at c.stretch-stretch.result.end) (sym c.records_from.ensures)
    (go_on ps c.stretch-stretch.ensures.agree c.args.cpu.0 c.in-Some.index c.loop-at.at c.stretch-stretch.result.end
    (as_parcel c.parcel.result.now) c.parcel.ensures
    (λ m from below.
    subst (IsContentAt ps c.args.cpu.0 m) c.in-Some.ensures.kept (c.stretch-stretch.ensures.shown m from below)))

pub loop-at-preserved : goal.loop-at-preserved
loop-at-preserved c = record {
  from = omega (arith, c.stretch-stretch.ensures.goes_on c.loop-at-test.true);
  passed = λ m r from below has. ⊎_elim
      (λ (before : m < c.loop-at.at). c.loop-at.invariant.passed m r from before has)
      (λ at.
      shown_no_record c.args.collector.now c.args.cpu.0 m c.stretch-stretch.result.content
      c.stretch-stretch.ensures.agree
      c.in_default.ensures.other (c.stretch-stretch.ensures.shown m at below) r has)
      (cases_lt m c.loop-at.at);
}

pub returns-clause-none : goal.returns-clause-none
returns-clause-none c m r from below has = c.loop-at.invariant.passed m r from (omega arith) has
