use Rattle.line_model.proofs.CallParts.{calls_finish}
use Rattle.line_model.proofs.laws.calls.calls_finish.Goals as goal

pub returns : goal.returns
returns c = record { finish = calls_finish }
