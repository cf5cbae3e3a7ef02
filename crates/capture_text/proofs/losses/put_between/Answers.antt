use Rattle.text_values.proofs.Chains.{put_then}
use Rattle.capture_text.proofs.losses.put_between.Goals as goal

pub returns : goal.returns
returns g c = put_then _ _ c.put_numbered.ensures c.put.ensures
