use Rattle.std.proofs.Common.{◌≡◌, Option, Some, sym, ap, ap₂, ◌∙◌}
use Rattle.std.specs.Option.{option_map}
use Rattle.std.proofs.lemmas.Option.{same_Some}
use Rattle.trace_dat.specs.kernel_texts.Names.{Event, event_seen}
use Rattle.event_fields.specs.Events.{Listed, fields_of_event, list_seen}
use Rattle.event_fields.specs.Fields.{fields_of}
use Rattle.event_fields.specs.Lines.{EventField}
use Rattle.text_values.proofs.Chains.{put_same}
use Rattle.capture_text.specs.Beside.{NameSource, source_of}
use Rattle.capture_text.specs.Fielded.{event_part, fields_or_payload}
use Rattle.capture_text.specs.Lent.{naming_seen}
use Rattle.capture_text.specs.Sources.{event_source}
use Rattle.capture_text.proofs.fielded.put_event_part.Goals as goal

pub returns-in-Some-Some-clause-text : goal.returns-in-Some-Some-clause-text
returns-in-Some-Some-clause-text g c =
    let event = c.in-Some-Some.event in
    let naming = naming_seen c.args.beside in
    let payload = c.args.payload.now in
    let found : option_map event_seen c.args.event ≡ Some (event_seen event) =
    ap (option_map event_seen) c.in-Some-Some.is-0 in
    let list : list_seen c.in-Some-Some.list.now ≡ fields_of event.format.now =
    same_Some _ _ (sym (ap (option_map (λ l. list_seen l.now)) c.in-Some-Some.is-1) ∙ c.of_event.ensures
    ∙ c.requires.fields ∙ ap fields_of_event found) in
    let source : event_source c.names_for.result ≡ source_of naming (event_seen event) =
    λ i. source_of (c.names_for.ensures.naming i) (c.names_for.ensures.event i) in
    put_same _ _
    (ap₂ (λ (s : EventField → NameSource) (l : Listed). fields_or_payload s l payload) source list
    ∙ ap (λ (e : Option Event). event_part naming e payload) (sym found))
    c.put_list_or_payload.ensures.text
