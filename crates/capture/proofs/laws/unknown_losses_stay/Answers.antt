use Rattle.capture.proofs.Told.{told-unknown}
use Rattle.capture.proofs.laws.unknown_losses_stay.Goals as goal

pub returns : goal.returns
returns c = told-unknown
