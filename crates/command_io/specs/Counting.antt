-- How many bytes a source has given.
use Rattle.std.specs.Prelude.{ℕ, ◌+◌, ◌-◌, ◌^◌, min, Result, Ok, Err}

-- a read that gives n bytes adds n; the count stops at 2^64 - 1
abbrev pub count_more : {E : Type 0} → ℕ → Result ℕ E → ℕ
count_more count (Ok n) = min (count + n) (2 ^ 64 - 1)
count_more count (Err e) = count
