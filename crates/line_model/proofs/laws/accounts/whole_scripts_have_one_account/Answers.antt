use Rattle.line_model.proofs.OneAccount.{one_account}
use Rattle.line_model.proofs.laws.accounts.whole_scripts_have_one_account.Goals as goal

pub returns : goal.returns
returns c = record { one = one_account }
