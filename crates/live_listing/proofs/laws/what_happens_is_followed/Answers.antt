use Rattle.live_listing.proofs.Readings.{reading_of}
use Rattle.live_listing.proofs.laws.what_happens_is_followed.Goals as goal

pub returns : goal.returns
returns c = reading_of
