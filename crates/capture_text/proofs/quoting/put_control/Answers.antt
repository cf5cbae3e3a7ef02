use Rattle.text_values.proofs.Chains.{put_then}
use Rattle.capture_text.proofs.quoting.put_control.Goals as goal

pub returns : goal.returns
returns g c =
    put_then _ _ c.put.ensures c.put_hex.ensures
