use Rattle.std.proofs.Common.{sym, ◌∙◌, map}
use Rattle.event_fields.specs.Lines.{field_seen}
use Rattle.text_values.proofs.Chains.{put_none, put_then, put_same}
use Rattle.capture_text.proofs.FieldLoops.{uncut_told, none_told}
use Rattle.capture_text.proofs.fields.put_uncut_part.Goals as goal

pub returns-then-has_uncut-clause-text : goal.returns-then-has_uncut-clause-text
returns-then-has_uncut-clause-text g c =
    put_same _ _
    (sym (uncut_told c.args.payload.now (map field_seen c.args.fields.now)
    (sym c.has_uncut-has_uncut.ensures ∙ c.if-has_uncut.true)))
    (put_then _ _ (put_then _ _ c.put.ensures c.put_uncut_names.ensures) c.put-then-has_uncut.ensures)

pub returns-else-has_uncut-clause-text : goal.returns-else-has_uncut-clause-text
returns-else-has_uncut-clause-text g c =
    put_same _ _
    (sym (none_told c.args.payload.now (map field_seen c.args.fields.now)
    (sym c.has_uncut-has_uncut.ensures ∙ c.if-has_uncut.false)))
    (put_none _)
