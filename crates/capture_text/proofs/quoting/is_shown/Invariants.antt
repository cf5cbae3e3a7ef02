use Rattle.std.proofs.Common.{◌≡◌, take}
use Rattle.capture_text.specs.Quoting.{shown_name}
use Rattle.capture_text.proofs.quoting.is_shown.Given as goal

abbrev pub invariant-loop-byte : goal.invariant-loop-byte
invariant-loop-byte l = shown_name (take l.byte-index l.name) ≡ take l.byte-index l.name
