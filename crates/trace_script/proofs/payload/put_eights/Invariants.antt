use Rattle.std.proofs.Common.{length}
use Rattle.trace_script.specs.Decoding.{ArePut}
use Rattle.trace_script.proofs.payload.put_eights.Given as goal

abbrev pub invariant-loop-left : goal.invariant-loop-left
invariant-loop-left l = ArePut l.text l.left l.fn.payloads.items l.payloads.items

abbrev pub decreases-loop-left : goal.decreases-loop-left
decreases-loop-left l = length l.left
