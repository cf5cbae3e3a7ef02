use Rattle.live_listing.proofs.SameNumbers.{same_damaged}
use Rattle.live_listing.proofs.laws.damaged_pages_are_those_of_a_capture.Goals as goal

pub returns : goal.returns
returns c = λ pages. same_damaged pages
