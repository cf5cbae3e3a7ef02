use Rattle.ring_model.proofs.wishes.WishSteps.{wish_loses_none}
use Rattle.ring_model.proofs.laws.wishes.wishes_lose_nothing.Goals as goal

pub returns : goal.returns
returns c = record { loses = wish_loses_none }
