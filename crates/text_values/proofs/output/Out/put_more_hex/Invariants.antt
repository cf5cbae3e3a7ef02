use Rattle.std.proofs.Common.{◌≡◌, ℕ, List, ◌++◌, length}
use Rattle.text_values.specs.Digits.{pairs_of}
use Rattle.text_values.specs.Putting.{Start, HasPut}
use Rattle.text_values.proofs.output.Out.put_more_hex.Given as goal

abbrev pub invariant-loop-rest : goal.invariant-loop-rest
invariant-loop-rest g l =
    (start : Start) (text : List ℕ) → HasPut start text l.fn.self
    → (so_far : List ℕ) × (so_far ++ pairs_of l.rest ≡ text ++ pairs_of l.bytes) × HasPut start so_far l.self

abbrev pub decreases-loop-rest : goal.decreases-loop-rest
decreases-loop-rest g l = length l.rest
