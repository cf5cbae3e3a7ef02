use Rattle.collector.proofs.Known.{joined_from, raised_from}
use Rattle.collector.proofs.laws.what_forgot_is_joined.Goals as goal

pub returns : goal.returns
returns c = record { joined = joined_from; raised = raised_from }
