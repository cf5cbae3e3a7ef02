use Rattle.ring_shared.specs.Takes.{SameRing}
use Rattle.run_tests.proofs.ends.take_all.Given as goal

abbrev pub invariant-loop-wanted : goal.invariant-loop-wanted
invariant-loop-wanted g l = SameRing l.fn.end.reader l.end.reader
