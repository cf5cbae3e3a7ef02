use Rattle.line_follower.proofs.Runs.{all_is_followed}
use Rattle.line_follower.proofs.laws.whatever_happens_is_followed.Goals as goal

pub returns : goal.returns
returns g c = all_is_followed
