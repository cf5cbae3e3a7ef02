use Rattle.std.proofs.Common.{◌≡◌, ℕ, List, length}
use Rattle.kernel_names.specs.Calls.{calls_of}
use Rattle.kernel_names.proofs.calls.from_call.Given as goal

abbrev pub invariant-loop-left : goal.invariant-loop-left
invariant-loop-left l = (name : List ℕ) → calls_of name l.left ≡ calls_of name l.text

abbrev pub decreases-loop-left : goal.decreases-loop-left
decreases-loop-left l = length l.left
