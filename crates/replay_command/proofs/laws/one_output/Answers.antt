use Rattle.replay_command.proofs.OneOutput.{one_replay}
use Rattle.replay_command.proofs.laws.one_output.Goals as goal

pub returns : goal.returns
returns c = one_replay
