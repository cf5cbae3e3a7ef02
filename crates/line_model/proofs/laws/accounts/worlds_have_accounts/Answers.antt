use Rattle.line_model.proofs.AccountsOfWorlds.{worlds_have_accounts}
use Rattle.line_model.proofs.laws.accounts.worlds_have_accounts.Goals as goal

pub returns : goal.returns
returns c = worlds_have_accounts
