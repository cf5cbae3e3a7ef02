use Rattle.std.proofs.Common.{rules}
use Rattle.trace_run.proofs.ReaderSteps.{takes_more}
use Rattle.trace_run.proofs.threaded.reading.take_pages.Goals as goal
use Rattle.trace_run.proofs.threaded.reading.take_pages.Goals.{in-None}
use Rattle.trace_run.proofs.threaded.reading.take_pages.Goals.{in-Some+in_ok-next+else-eq+then-eq-2+then-was_over}

pub loop-preserved-then-eq : goal.loop-preserved-then-eq
loop-preserved-then-eq g c = record {
  can = tt;
  finite = tt;
  on =
      takes_more g.P.PassesOn.answers c.args.passing.now c.args.cpu.0 c.args.end c.loop.end c.in_ok-next.next
      c.in_ok-next.found
      c.loop.invariant.on c.in_ok-next.ensures.cpu c.in_ok-next.ensures.same c.in_ok-next.ensures.found
      (λ e. c.in_ok-pass_on.ensures.passed);
}

pub loop-preserved : goal.loop-preserved
loop-preserved g c = record {
  can = tt;
  finite = tt;
  on =
      takes_more g.P.PassesOn.answers c.args.passing.now c.args.cpu.0 c.args.end c.loop.end c.in_ok-next.next
      c.in_ok-next.found
      c.loop.invariant.on c.in_ok-next.ensures.cpu c.in_ok-next.ensures.same c.in_ok-next.ensures.found
      (λ e. absurd (let no : ⊥ = search (rules, c.if-eq.ensures) in no));
}

pub returns : goal.returns
returns g c = elim c.match-next.branch [
  | in-None w ↦ rw w.end-is c.loop.invariant.on
  | in-Some+in_ok-next+else-eq+then-eq-2+then-was_over w ↦ rw w.end-is
      (takes_more g.P.PassesOn.answers c.args.passing.now c.args.cpu.0 c.args.end c.loop.end w.in_ok-next.next
      w.in_ok-next.found
      c.loop.invariant.on w.in_ok-next.ensures.cpu w.in_ok-next.ensures.same w.in_ok-next.ensures.found
      (λ e. absurd (let no : ⊥ = search (rules, w.if-eq.ensures) in no)))
]
