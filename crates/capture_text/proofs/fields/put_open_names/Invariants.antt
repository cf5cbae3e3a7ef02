use Rattle.std.proofs.Common.{◌≡◌, take, map}
use Rattle.std.specs.Prelude.{flat_map}
use Rattle.event_fields.specs.Lines.{field_seen}
use Rattle.text_values.specs.Putting.{Puts}
use Rattle.capture_text.specs.Fields.{open_names, is_no_text, json_names}
use Rattle.capture_text.specs.Sources.{event_source}
use Rattle.capture_text.proofs.fields.put_open_names.Given as goal

abbrev pub invariant-loop-place : goal.invariant-loop-place
invariant-loop-place g l =
    Puts (open_names (flat_map (json_names (event_source l.names) l.payload) (map field_seen (take l.place l.fields))))
    l.fn.out l.out
    × (l.is_first
    ≡ is_no_text (flat_map (json_names (event_source l.names) l.payload) (map field_seen (take l.place l.fields))))
