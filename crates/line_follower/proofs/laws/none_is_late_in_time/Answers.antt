use Rattle.line_follower.proofs.InTime.{none_late_in_time}
use Rattle.line_follower.proofs.laws.none_is_late_in_time.Goals as goal

pub returns : goal.returns
returns g c = none_late_in_time
