use Rattle.std.proofs.Common.{◌≡◌, take, map}
use Rattle.std.specs.Prelude.{flat_map}
use Rattle.event_fields.specs.Lines.{field_seen}
use Rattle.text_values.specs.Putting.{Puts}
use Rattle.capture_text.specs.Fields.{joined, is_no_text, json_member}
use Rattle.capture_text.proofs.fields.put_members.Given as goal

abbrev pub invariant-loop-field : goal.invariant-loop-field
invariant-loop-field g l =
    Puts (joined (flat_map (json_member l.payload) (map field_seen (take l.field-index l.fields)))) l.fn.out l.out
    × (l.is_first ≡ is_no_text (flat_map (json_member l.payload) (map field_seen (take l.field-index l.fields))))
