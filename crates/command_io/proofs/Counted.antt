-- What a source has given is counted.
use Rattle.std.proofs.Common.{ℕ, ◌+◌, ◌-◌, ◌^◌, ◌<◌, ◌≤◌, List, length, take, arith}
use Rattle.std.specs.Prelude.{min}
use Rattle.std.proofs.lemmas.List.{length-take}

-- if what was read goes past a limit, the count does
pub counted_past : (limit len count n : ℕ) (bytes : List ℕ) → limit < 2 ^ 64 - 1 → len ≤ count
    → limit < len + length (take n bytes) → limit < min (count + n) (2 ^ 64 - 1)
counted_past limit len count n bytes small kept over =
    let at_most = length-take n bytes in
    omega arith
