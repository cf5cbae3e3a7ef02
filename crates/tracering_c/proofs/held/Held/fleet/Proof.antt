use Rattle.tracering_c.specs.contracts.held.Held.fleet as f
use Rattle.tracering_c.proofs.HeldKinds.{fleets}
use Rattle.tracering_c.proofs.HeldWalks.{lend_Meets}
use Rattle.tracering_c.proofs.held.Held.fleet.Statement.{statement}
use Rattle.tracering_c.proofs.held.Held.fleet.Code as code

pub fleet_spec : {M : Type 1} → statement M
fleet_spec 𝓤 𝓛 𝓜 𝓡 wired = lend_Meets fleets 𝓤 𝓛 𝓜 𝓡 f.Key.name (code.unfolded 𝓤 𝓛.H 𝓜 𝓡 wired)
