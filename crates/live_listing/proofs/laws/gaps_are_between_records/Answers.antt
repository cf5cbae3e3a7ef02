use Rattle.live_listing.specs.Pages.{nothing_reached}
use Rattle.live_listing.proofs.SameNumbers.{between, same_end}
use Rattle.live_listing.proofs.laws.gaps_are_between_records.Goals as goal

pub returns-clause-between : goal.returns-clause-between
returns-clause-between c = λ pages. between nothing_reached pages

pub returns-clause-end : goal.returns-clause-end
returns-clause-end c = λ pages. same_end nothing_reached pages
