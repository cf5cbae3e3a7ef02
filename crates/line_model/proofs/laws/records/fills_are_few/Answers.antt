use Rattle.line_model.proofs.FewFills.{fills_are_few}
use Rattle.line_model.proofs.laws.records.fills_are_few.Goals as goal

pub returns : goal.returns
returns c = record { few = fills_are_few }
