use Rattle.std.proofs.Common.{length}
use Rattle.trace_script.specs.Decoding.{ArePut}
use Rattle.trace_script.proofs.payload.put_many.Given as goal

abbrev pub invariant-loop-digits : goal.invariant-loop-digits
invariant-loop-digits l = ArePut l.text l.left l.fn.payloads.items l.payloads.items

abbrev pub decreases-loop-digits : goal.decreases-loop-digits
decreases-loop-digits l = length l.left
