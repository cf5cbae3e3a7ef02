use Rattle.nested_writer.specs.IsStack.{IsReachedStack}
use Rattle.surface_tests.proofs.stack.reserve_all.Given as goal

abbrev pub invariant-loop-moment : goal.invariant-loop-moment
invariant-loop-moment l = IsReachedStack l.stack
