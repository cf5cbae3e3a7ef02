use Rattle.std.proofs.Common.{◌≡◌, ◌++◌, take}
use Rattle.text_values.specs.Digits.{pairs_of}
use Rattle.text_values.proofs.values.put_each.Given as goal

abbrev pub invariant-loop-byte : goal.invariant-loop-byte
invariant-loop-byte l = l.out.items ≡ l.initial.out.items ++ pairs_of (take l.byte-index l.bytes)
