-- The fields of a record, and its payload if one of them has no value.
use Rattle.std.proofs.Common.{◌≡◌, ℕ, true, List, [], ◌++◌, sym, ap, ◌∙◌}
use Rattle.std.specs.Prelude.{Ok}
use Rattle.std.proofs.lemmas.Bool.{cond-true}
use Rattle.event_fields.specs.Events.{Listed}
use Rattle.event_fields.specs.Lines.{EventField}
use Rattle.capture_text.specs.Beside.{NameSource}
use Rattle.capture_text.specs.Fields.{has_uncut, fields_text, json_fields}
use Rattle.capture_text.specs.Fielded.{payload_part, fields_or_payload, json_payload, json_fields_or_payload}

pub text_cut : (source_of : EventField → NameSource) (listed : Listed) (fields : List EventField) (payload : List ℕ)
    → listed ≡ Ok fields → has_uncut payload fields ≡ true
    → fields_text source_of payload fields ++ payload_part payload ≡ fields_or_payload source_of listed payload
text_cut source_of listed fields payload is has =
    ap (λ (p : List ℕ). fields_text source_of payload fields ++ p) (sym (cond-true _ (payload_part payload) [] has))
    ∙ sym (ap (λ (l : Listed). fields_or_payload source_of l payload) is)

pub json_cut : (source_of : EventField → NameSource) (listed : Listed) (fields : List EventField) (payload : List ℕ)
    → listed ≡ Ok fields → has_uncut payload fields ≡ true
    → json_fields source_of payload fields ++ json_payload payload ≡ json_fields_or_payload source_of listed payload
json_cut source_of listed fields payload is has =
    ap (λ (p : List ℕ). json_fields source_of payload fields ++ p) (sym (cond-true _ (json_payload payload) [] has))
    ∙ sym (ap (λ (l : Listed). json_fields_or_payload source_of l payload) is)
