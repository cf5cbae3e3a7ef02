use Rattle.line_model.proofs.StepsMake.{steps_make}
use Rattle.line_model.proofs.laws.calls.steps_make.Goals as goal

pub returns : goal.returns
returns c = record { make = steps_make }
