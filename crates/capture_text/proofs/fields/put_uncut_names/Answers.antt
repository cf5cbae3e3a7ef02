use Rattle.capture_text.specs.Fields.{json_uncut}
use Rattle.capture_text.proofs.FieldLoops.{texts_more}
use Rattle.capture_text.proofs.fields.put_uncut_names.Goals as goal

pub loop-field-preserved : goal.loop-field-preserved
loop-field-preserved g c =
    texts_more c.args.fields.now c.loop-field.field-index _ c.field-item.result c.loop-field-test.true c.field-item.is
    (json_uncut c.args.payload.now)
    c.loop-field.is_first c.put_uncut_name-is_first.result c.loop-field.invariant
    c.put_uncut_name-is_first.ensures.text c.put_uncut_name-is_first.ensures.first
