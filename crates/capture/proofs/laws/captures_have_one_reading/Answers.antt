use Rattle.capture.proofs.OneReading.{one-reading}
use Rattle.capture.proofs.laws.captures_have_one_reading.Goals as goal

pub returns : goal.returns
returns c = one-reading
