use Rattle.text_values.proofs.Chains.{put_then, put_same}
use Rattle.capture_text.proofs.Texts.{quoted_is}
use Rattle.capture_text.proofs.quoting.put_quoted.Goals as goal

pub returns : goal.returns
returns g c =
    put_same _ _ (quoted_is c.args.text.now c.is_text.result c.is_text.ensures)
    (put_then _ _ (put_then _ _ c.put.ensures c.put_escaped_text.ensures) c.put-2.ensures)
