use Rattle.tracering_c.specs.contracts.held.Held.of_collector as f
use Rattle.tracering_c.proofs.HeldKinds.{collectors}
use Rattle.tracering_c.proofs.HeldWalks.{of_Meets}
use Rattle.tracering_c.proofs.held.Held.of_collector.Statement.{statement}
use Rattle.tracering_c.proofs.held.Held.of_collector.Code as code

pub of_collector_spec : {M : Type 1} → statement M
of_collector_spec 𝓤 𝓛 𝓜 𝓡 wired = of_Meets collectors 𝓤 𝓛 𝓜 𝓡 f.Key.name (code.unfolded 𝓤 𝓛.H 𝓜 𝓡 wired)
