use Rattle.std.proofs.Common.{◌≡◌, drop, map}
use Rattle.event_fields.specs.Lines.{field_seen}
use Rattle.capture_text.specs.Fields.{has_uncut}
use Rattle.capture_text.proofs.fields.has_uncut.Given as goal

abbrev pub invariant-loop-field : goal.invariant-loop-field
invariant-loop-field l =
    has_uncut l.payload (map field_seen (drop l.field-index l.fields)) ≡ has_uncut l.payload (map field_seen l.fields)
