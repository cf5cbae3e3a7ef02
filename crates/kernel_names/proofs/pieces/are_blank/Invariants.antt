use Rattle.std.proofs.Common.{◌≡◌, ◌==◌, drop}
use Rattle.std.specs.List.{list_all}
use Rattle.kernel_names.proofs.pieces.are_blank.Given as goal

abbrev pub invariant-loop-byte : goal.invariant-loop-byte
invariant-loop-byte l = list_all (λ b. b == 32) (drop l.byte-index l.text) ≡ list_all (λ b. b == 32) l.text
