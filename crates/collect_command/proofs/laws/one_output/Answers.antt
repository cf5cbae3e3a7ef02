use Rattle.collect_command.proofs.OneOutput.{one_output}
use Rattle.collect_command.proofs.laws.one_output.Goals as goal

pub returns : goal.returns
returns c = one_output
