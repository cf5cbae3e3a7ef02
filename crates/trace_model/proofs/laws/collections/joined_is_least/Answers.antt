use Rattle.trace_model.proofs.collections.Joined.{joined_least, joined_agree}
use Rattle.trace_model.proofs.laws.collections.joined_is_least.Goals as goal

pub returns : goal.returns
returns c = record { least = joined_least; only = joined_agree }
