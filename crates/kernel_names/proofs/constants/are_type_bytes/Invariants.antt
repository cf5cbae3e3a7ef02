use Rattle.std.proofs.Common.{◌≡◌, drop}
use Rattle.std.specs.List.{list_all}
use Rattle.kernel_names.specs.Constants.{is_type_byte}
use Rattle.kernel_names.proofs.constants.are_type_bytes.Given as goal

abbrev pub invariant-loop-byte : goal.invariant-loop-byte
invariant-loop-byte l = list_all is_type_byte (drop l.byte-index l.text) ≡ list_all is_type_byte l.text
