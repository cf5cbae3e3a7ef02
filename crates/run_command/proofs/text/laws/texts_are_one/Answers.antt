use Rattle.run_command.proofs.OneRun.{one_verdict, one_run}
use Rattle.run_command.proofs.text.laws.texts_are_one.Goals as goal

pub returns : goal.returns
returns c = record { verdict = one_verdict; run = one_run }
