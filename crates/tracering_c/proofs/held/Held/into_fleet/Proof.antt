use Rattle.tracering_c.specs.contracts.held.Held.into_fleet as f
use Rattle.tracering_c.proofs.HeldKinds.{fleets}
use Rattle.tracering_c.proofs.HeldWalks.{into_Meets}
use Rattle.tracering_c.proofs.held.Held.into_fleet.Statement.{statement}
use Rattle.tracering_c.proofs.held.Held.into_fleet.Code as code

pub into_fleet_spec : {M : Type 1} → statement M
into_fleet_spec 𝓤 𝓛 𝓜 𝓡 wired = into_Meets fleets 𝓤 𝓛 𝓜 𝓡 f.Key.name (code.unfolded 𝓤 𝓛.H 𝓜 𝓡 wired)
