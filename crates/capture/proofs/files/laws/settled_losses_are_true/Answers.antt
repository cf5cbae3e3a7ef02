use Rattle.capture.proofs.TrueLosses.{one-settled, others-stay}
use Rattle.capture.proofs.files.laws.settled_losses_are_true.Goals as goal

pub returns : goal.returns
returns c = record { one = one-settled; others = others-stay }
