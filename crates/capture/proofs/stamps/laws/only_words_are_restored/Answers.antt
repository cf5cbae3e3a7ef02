use Rattle.capture.proofs.StampedImages.{restored-parts, restored-joined}
use Rattle.capture.proofs.stamps.laws.only_words_are_restored.Goals as goal

pub returns : goal.returns
returns c = record { parts = restored-parts; words = restored-joined }
