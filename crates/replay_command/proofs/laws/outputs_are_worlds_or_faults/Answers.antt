use Rattle.replay_command.proofs.OneOutput.{cases_given, given_by_cases}
use Rattle.replay_command.proofs.laws.outputs_are_worlds_or_faults.Goals as goal

pub returns : goal.returns
returns c = λ asked text bytes status. (cases_given asked text bytes status, given_by_cases asked text bytes status)
