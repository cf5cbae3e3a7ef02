use Rattle.std.proofs.Common.{◌≡◌, drop}
use Rattle.event_fields.specs.Texts.{has_no_bracket}
use Rattle.event_fields.proofs.texts.has_no_bracket.Given as goal

abbrev pub invariant-loop-byte : goal.invariant-loop-byte
invariant-loop-byte l = has_no_bracket (drop l.byte-index l.text) ≡ has_no_bracket l.text
