use Rattle.live_listing.specs.Pages.{nothing_reached}
use Rattle.live_listing.proofs.SameNumbers.{same_unknown}
use Rattle.live_listing.proofs.laws.unknown_losses_are_those_of_a_capture.Goals as goal

pub returns : goal.returns
returns c = λ pages. same_unknown nothing_reached pages
