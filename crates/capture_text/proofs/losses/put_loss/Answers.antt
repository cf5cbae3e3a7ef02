use Rattle.text_values.proofs.Chains.{put_then, put_same}
use Rattle.capture_text.proofs.SaidNumbers.{text_loss, json_loss}
use Rattle.capture_text.proofs.losses.put_loss.Goals as goal

pub returns-in-Text : goal.returns-in-Text
returns-in-Text g c =
    put_same _ _ (text_loss _ _ c.args.number.0 _ c.in-Text.is c.from-cpu.ensures)
    (put_then _ _ c.put_between.ensures c.put_between-in-Text.ensures)

pub returns-in-Json : goal.returns-in-Json
returns-in-Json g c =
    put_same _ _ (json_loss _ _ c.args.number.0 _ c.in-Json.is c.from-cpu.ensures)
    (put_then _ _ c.put_between-in-Json.ensures c.put_between-in-Json-2.ensures)
