use Rattle.std.proofs.Common.{ap, map, ◌∙◌}
use Rattle.event_fields.specs.Lines.{field_seen}
use Rattle.capture_text.specs.Beside.{NameSource}
use Rattle.capture_text.specs.Fields.{json_names, shown_names}
use Rattle.capture_text.specs.Sources.{event_source}
use Rattle.capture_text.proofs.FieldLoops.{names_put}
use Rattle.capture_text.proofs.NameTables.{own_source, field_at}
use Rattle.capture_text.proofs.fields.put_open_names.Goals as goal

pub loop-place-preserved : goal.loop-place-preserved
loop-place-preserved g c =
    let fields = c.args.fields.now in
    let place = c.loop-place.place in
    let field = c.index-fields-place.result in
    let payload = c.args.payload.now in
    let at = field_at fields place field field c.loop-place-test.true c.index-fields-place.is in
    names_put fields place field field c.loop-place-test.true c.index-fields-place.is
    (json_names (event_source c.args.names) payload) _ c.loop-place.is_first c.put_names_of-is_first.result
    c.loop-place.invariant
    (ap (λ (s : NameSource). shown_names s payload (field_seen field))
    (c.source.ensures ∙ own_source c.args.names (map field_seen fields) place (field_seen field) c.requires at))
    c.put_names_of-is_first.ensures.text c.put_names_of-is_first.ensures.first
