use Rattle.trace_run.specs.threaded.Taking.{TakesOn}
use Rattle.trace_run.proofs.threaded.reading.take_pages.Given as goal

abbrev pub invariant-loop : goal.invariant-loop
invariant-loop g l = record {
  can : (goal.iterator-loop g).can_next l.iterator';
  finite : (goal.iterator-loop g).is_finite l.iterator';
  on : TakesOn g.P.PassesOn.answers l.passing l.cpu.0 l.fn.end l.end;
}
