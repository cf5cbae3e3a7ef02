use Rattle.std.proofs.Common.{◌≡◌, drop, map}
use Rattle.event_fields.specs.Lines.{field_seen}
use Rattle.event_fields.specs.Fields.{has_name}
use Rattle.event_fields.proofs.fields.has_name.Given as goal

abbrev pub invariant-loop-field : goal.invariant-loop-field
invariant-loop-field l =
    has_name l.name (map field_seen (drop l.field-index l.fields)) ≡ has_name l.name (map field_seen l.fields)
