use Rattle.replay_command.proofs.OneOutput.{genuine_replay}
use Rattle.replay_command.proofs.laws.printed_worlds_are_genuine.Goals as goal

pub returns : goal.returns
returns c = genuine_replay
