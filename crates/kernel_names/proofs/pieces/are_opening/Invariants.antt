use Rattle.std.proofs.Common.{◌≡◌, drop}
use Rattle.std.specs.List.{list_all}
use Rattle.kernel_names.specs.Pieces.{is_opening}
use Rattle.kernel_names.proofs.pieces.are_opening.Given as goal

abbrev pub invariant-loop-byte : goal.invariant-loop-byte
invariant-loop-byte l = list_all is_opening (drop l.byte-index l.text) ≡ list_all is_opening l.text
