use Rattle.line_follower.proofs.Growing.{stays_final}
use Rattle.line_follower.proofs.laws.what_is_final_stays_final.Goals as goal

pub returns : goal.returns
returns g c = stays_final
