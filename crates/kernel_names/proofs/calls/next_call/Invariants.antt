use Rattle.std.proofs.Common.{◌≡◌, length}
use Rattle.kernel_names.specs.Calls.{calls_of}
use Rattle.kernel_names.proofs.calls.next_call.Given as goal

abbrev pub invariant-loop-left : goal.invariant-loop-left
invariant-loop-left l = calls_of l.name l.left ≡ calls_of l.name l.text

abbrev pub decreases-loop-left : goal.decreases-loop-left
decreases-loop-left l = length l.left
