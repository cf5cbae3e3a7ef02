use Rattle.replay_command.proofs.Accounts.{account_written}
use Rattle.replay_command.proofs.command.replay_to.Goals as goal

pub returns-clause-account : goal.returns-clause-account
returns-clause-account g c = λ is. account_written c.args.log _ _ c.carry_out.result c.carry_out.ensures is
