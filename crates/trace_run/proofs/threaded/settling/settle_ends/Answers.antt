use Rattle.std.proofs.Common.{List, sym, subst, rules}
use Rattle.page_numbers.specs.Parcels.{ParcelValue, as_parcels}
use Rattle.trace_run.specs.threaded.Asked.{HaveReadersPassed}
use Rattle.trace_run.proofs.ReaderSteps.{takes_more}
use Rattle.trace_run.proofs.threaded.settling.settle_ends.Goals as goal

pub returns-then-has_all-clause-passed : goal.returns-then-has_all-clause-passed
returns-then-has_all-clause-passed g c = λ were.
    subst (λ (l : List ParcelValue).
    HaveReadersPassed g.P.PassesOn.answers c.args.passing.now c.args.cpu.0 (as_parcels l))
    (sym c.settle.ensures.taken) (c.loop.invariant.on.passed were)

pub loop-preserved-in-Continue-branch-2 : goal.loop-preserved-in-Continue-branch-2
loop-preserved-in-Continue-branch-2 g c = record {
  can = tt;
  finite = tt;
  writer = c.loop.invariant.writer;
  on =
      takes_more g.P.PassesOn.answers c.args.passing.now c.args.cpu.0 c.args.end c.loop.end c.in_ok-next.next
      c.in_ok-next.found
      c.loop.invariant.on c.in_ok-next.ensures.cpu c.in_ok-next.ensures.same c.in_ok-next.ensures.found
      (λ e. c.in_ok-pass_on.ensures.passed);
}

pub loop-preserved : goal.loop-preserved
loop-preserved g c = record {
  can = tt;
  finite = tt;
  writer = c.loop.invariant.writer;
  on =
      takes_more g.P.PassesOn.answers c.args.passing.now c.args.cpu.0 c.args.end c.loop.end c.in_ok-next.next
      c.in_ok-next.found
      c.loop.invariant.on c.in_ok-next.ensures.cpu c.in_ok-next.ensures.same c.in_ok-next.ensures.found
      (λ e. absurd (let no : ⊥ = search (rules, c.if-eq.ensures) in no));
}
