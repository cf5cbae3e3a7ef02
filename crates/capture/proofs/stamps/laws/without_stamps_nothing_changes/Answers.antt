use Rattle.capture.proofs.StampedImages.{words-stay}
use Rattle.capture.proofs.stamps.laws.without_stamps_nothing_changes.Goals as goal

pub returns : goal.returns
returns c = words-stay
