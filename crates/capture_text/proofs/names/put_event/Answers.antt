use Rattle.text_values.proofs.Chains.{put_then}
use Rattle.capture_text.proofs.names.put_event.Goals as goal

pub returns : goal.returns
returns g c =
    put_then _ _ (put_then _ _ c.put_name.ensures c.put.ensures) c.put_name-2.ensures
