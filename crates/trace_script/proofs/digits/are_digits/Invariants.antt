use Rattle.std.proofs.Common.{◌≡◌, nat_lt, take}
use Rattle.std.specs.Char.{is_digit}
use Rattle.std.specs.List.{list_all}
use Rattle.trace_script.proofs.digits.are_digits.Given as goal

abbrev pub invariant-loop-byte : goal.invariant-loop-byte
invariant-loop-byte l = nat_lt l.most 16 ≡ list_all (λ c. is_digit c 16) (take l.byte-index l.bytes)
