use Rattle.line_model.proofs.OneText.{one_text}
use Rattle.line_model.proofs.laws.accounts.whole_scripts_have_one_output.Goals as goal

pub returns : goal.returns
returns c = record { one = one_text }
