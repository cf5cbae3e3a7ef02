use Rattle.std.proofs.Common.{map}
use Rattle.event_fields.specs.Lines.{field_seen}
use Rattle.capture_text.specs.Sources.{event_source, source_at}
use Rattle.capture_text.proofs.FieldLoops.{fields_put}
use Rattle.capture_text.proofs.NameTables.{own_source, field_at}
use Rattle.capture_text.proofs.fields.put_fields.Goals as goal

pub loop-place-preserved : goal.loop-place-preserved
loop-place-preserved g c =
    let fields = c.args.fields.now in
    let place = c.loop-place.place in
    let field = c.index-fields-place.result in
    let at = field_at fields place field field c.loop-place-test.true c.index-fields-place.is in
    fields_put fields place field field c.loop-place-test.true c.index-fields-place.is (event_source c.args.names)
    (source_at c.args.names place) c.args.payload.now c.loop-place.is_uncut c.put_field-is_uncut.result
    c.loop-place.invariant
    (own_source c.args.names (map field_seen fields) place (field_seen field) c.requires at)
    c.put_field-is_uncut.ensures.text c.put_field-is_uncut.ensures.uncut
