use Rattle.trace_model.proofs.laws.words.places_are_unique.Goals as goal
use Rattle.trace_model.proofs.words.Places.{places_unique}

pub returns : goal.returns
returns c = record { unique = places_unique }
