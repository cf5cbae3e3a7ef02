use Rattle.ring_shared.specs.Value.{SameWriter}
use Rattle.ring_shared.specs.Calls.{IsWriter}
use Rattle.run_tests.proofs.ends.write_all.Given as goal

abbrev pub invariant-loop-moment : goal.invariant-loop-moment
invariant-loop-moment g l = record { same : SameWriter l.fn.writer l.writer; writer : IsWriter l.writer }
