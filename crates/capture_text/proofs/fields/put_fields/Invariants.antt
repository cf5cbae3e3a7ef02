use Rattle.std.proofs.Common.{◌≡◌, take, map}
use Rattle.event_fields.specs.Lines.{field_seen}
use Rattle.text_values.specs.Putting.{Puts}
use Rattle.capture_text.specs.Fields.{fields_text, has_uncut}
use Rattle.capture_text.specs.Sources.{event_source}
use Rattle.capture_text.proofs.fields.put_fields.Given as goal

abbrev pub invariant-loop-place : goal.invariant-loop-place
invariant-loop-place g l =
    Puts (fields_text (event_source l.names) l.payload (map field_seen (take l.place l.fields))) l.fn.out l.out
    × (l.is_uncut ≡ has_uncut l.payload (map field_seen (take l.place l.fields)))
