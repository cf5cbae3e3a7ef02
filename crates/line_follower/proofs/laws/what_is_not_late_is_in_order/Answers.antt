use Rattle.line_follower.proofs.Runs.{in_order_unless_late}
use Rattle.line_follower.proofs.laws.what_is_not_late_is_in_order.Goals as goal

pub returns : goal.returns
returns g c = in_order_unless_late
