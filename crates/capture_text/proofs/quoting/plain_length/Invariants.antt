use Rattle.std.proofs.Common.{◌≡◌, take}
use Rattle.capture_text.specs.Quoting.{escaped_text}
use Rattle.capture_text.proofs.quoting.plain_length.Given as goal

abbrev pub invariant-loop-index : goal.invariant-loop-index
invariant-loop-index l = escaped_text l.is_text (take l.index l.text) ≡ take l.index l.text
