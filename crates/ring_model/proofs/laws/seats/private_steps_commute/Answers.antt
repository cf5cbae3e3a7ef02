use Rattle.ring_model.proofs.seats.PrivateSteps.{private_touches_no_word}
use Rattle.ring_model.proofs.seats.SeatPages.{private_leaves_other_pages}
use Rattle.ring_model.proofs.seats.PrivateCommutes.{private_commutes}
use Rattle.ring_model.proofs.laws.seats.private_steps_commute.Goals as goal

pub returns : goal.returns
returns c = record { words = private_touches_no_word; pages = private_leaves_other_pages; commute = private_commutes }
