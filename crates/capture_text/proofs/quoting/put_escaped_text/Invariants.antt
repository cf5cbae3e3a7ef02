use Rattle.std.proofs.Common.{◌≡◌, ℕ, List, ◌++◌, length}
use Rattle.capture_text.specs.Quoting.{escaped_text}
use Rattle.text_values.specs.Putting.{Puts}
use Rattle.capture_text.proofs.quoting.put_escaped_text.Given as goal

abbrev pub invariant-loop-byte : goal.invariant-loop-byte
invariant-loop-byte g l =
    (done : List ℕ) × (done ++ l.rest ≡ l.text)
    × Puts (escaped_text l.is_text done) l.fn.out l.out

abbrev pub decreases-loop-byte : goal.decreases-loop-byte
decreases-loop-byte g l = length l.rest
