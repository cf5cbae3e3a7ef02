use Rattle.stream_collector.proofs.Frontiers.{later_after}
use Rattle.stream_collector.proofs.laws.what_comes_is_not_before_the_frontier.Goals as goal

pub returns : goal.returns
returns c = later_after
