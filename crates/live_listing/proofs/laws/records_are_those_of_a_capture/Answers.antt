use Rattle.live_listing.specs.Pages.{nothing_reached}
use Rattle.live_listing.proofs.SameNumbers.{same_numbers}
use Rattle.live_listing.proofs.laws.records_are_those_of_a_capture.Goals as goal

pub returns : goal.returns
returns c = λ cpu pages. same_numbers cpu 0 nothing_reached pages
