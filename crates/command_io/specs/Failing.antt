-- What a failed read or write is. An end is asked for nothing more once one has failed, so whether it has
-- failed is whether its last call did.
use Rattle.std.specs.Prelude.{ℕ, Bool, true, false, ◌&&◌, ◌==◌, nat_lt, Result, Ok, Err}

-- a read fails by an `Err`
abbrev pub read_fails : {E : Type 0} → Result ℕ E → Bool
read_fails (Ok n) = false
read_fails (Err e) = true

-- a write fails by an `Err`, and by taking none of one or more bytes, `len` of them
abbrev pub write_fails : {E : Type 0} → Result ℕ E → ℕ → Bool
write_fails (Ok n) len = n == 0 && nat_lt 0 len
write_fails (Err e) len = true
