use Rattle.ring_model.proofs.links.Relinking.{owners_clear, updates_claimed}
use Rattle.ring_model.proofs.laws.links.owners_clear.Goals as goal

pub returns : goal.returns
returns c = record { claims = updates_claimed; clears = owners_clear }
