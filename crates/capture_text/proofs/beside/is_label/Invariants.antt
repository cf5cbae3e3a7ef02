use Rattle.std.proofs.Common.{◌≡◌, drop}
use Rattle.std.specs.List.{list_all}
use Rattle.capture_text.specs.Beside.{is_label_byte}
use Rattle.capture_text.proofs.beside.is_label.Given as goal

abbrev pub invariant-loop-byte : goal.invariant-loop-byte
invariant-loop-byte l = list_all is_label_byte (drop l.byte-index l.name) ≡ list_all is_label_byte l.name
