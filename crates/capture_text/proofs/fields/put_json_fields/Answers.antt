use Rattle.text_values.proofs.Chains.{put_then}
use Rattle.capture_text.proofs.fields.put_json_fields.Goals as goal

pub returns-clause-text : goal.returns-clause-text
returns-clause-text g c =
    put_then _ _ (put_then _ _ (put_then _ _ (put_then _ _ c.put.ensures c.put_members.ensures) c.put-2.ensures)
    c.put_json_names.ensures) c.put_uncut_part.ensures.text
