use Rattle.ring_shared.specs.Value.{SameWriter}
use Rattle.ring_shared.specs.Calls.{IsWriter}
use Rattle.surface_tests.proofs.ends.finish.Given as goal

abbrev pub invariant-loop-made : goal.invariant-loop-made
invariant-loop-made l = IsWriter l.writer × SameWriter l.initial.writer l.writer
