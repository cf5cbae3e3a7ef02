use Rattle.capture.proofs.OnePage.{two-pages, beginning-shows}
use Rattle.capture.proofs.laws.several_pages_are_told.Goals as goal

pub returns : goal.returns
returns c = record { two = two-pages; beginning = beginning-shows }
