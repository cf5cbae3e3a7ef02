use Rattle.std.specs.Prelude.{◌≡◌}
use Rattle.ring_core.specs.Steps.{IsReachedCore}
use Rattle.surface_tests.proofs.cores.finish.Given as goal

abbrev pub invariant-loop-made : goal.invariant-loop-made
invariant-loop-made l = IsReachedCore l.core × (l.core.stack.size ≡ l.initial.core.stack.size)
