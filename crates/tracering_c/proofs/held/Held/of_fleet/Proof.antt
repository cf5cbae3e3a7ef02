use Rattle.tracering_c.specs.contracts.held.Held.of_fleet as f
use Rattle.tracering_c.proofs.HeldKinds.{fleets}
use Rattle.tracering_c.proofs.HeldWalks.{of_Meets}
use Rattle.tracering_c.proofs.held.Held.of_fleet.Statement.{statement}
use Rattle.tracering_c.proofs.held.Held.of_fleet.Code as code

pub of_fleet_spec : {M : Type 1} → statement M
of_fleet_spec 𝓤 𝓛 𝓜 𝓡 wired = of_Meets fleets 𝓤 𝓛 𝓜 𝓡 f.Key.name (code.unfolded 𝓤 𝓛.H 𝓜 𝓡 wired)
