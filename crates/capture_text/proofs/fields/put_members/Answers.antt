use Rattle.capture_text.specs.Fields.{json_member}
use Rattle.capture_text.proofs.FieldLoops.{texts_more}
use Rattle.capture_text.proofs.fields.put_members.Goals as goal

pub loop-field-preserved : goal.loop-field-preserved
loop-field-preserved g c =
    texts_more c.args.fields.now c.loop-field.field-index _ c.field-item.result c.loop-field-test.true c.field-item.is
    (json_member c.args.payload.now)
    c.loop-field.is_first c.put_member-is_first.result c.loop-field.invariant
    c.put_member-is_first.ensures.text c.put_member-is_first.ensures.first
