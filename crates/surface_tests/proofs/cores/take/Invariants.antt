use Rattle.std.specs.Prelude.{◌≡◌, length}
use Rattle.ring_core.specs.Steps.{IsReachedCore}
use Rattle.surface_tests.proofs.cores.take.Given as goal

abbrev pub invariant-loop-made : goal.invariant-loop-made
invariant-loop-made l = record {
  ring : IsReachedCore l.core;
  size : l.core.stack.size ≡ l.initial.core.stack.size;
  body : length l.body ≡ l.core.stack.size;
}
