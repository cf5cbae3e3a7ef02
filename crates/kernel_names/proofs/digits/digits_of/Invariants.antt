use Rattle.std.proofs.Common.{◌≡◌, drop}
use Rattle.kernel_names.specs.Digits.{number_after, digits_in}
use Rattle.kernel_names.proofs.digits.digits_of.Given as goal

abbrev pub invariant-loop-byte : goal.invariant-loop-byte
invariant-loop-byte l = number_after l.base l.number (drop l.byte-index l.text) ≡ digits_in l.base l.text
