use Rattle.tracering_c.specs.contracts.held.Held.into_collector as f
use Rattle.tracering_c.proofs.HeldKinds.{collectors}
use Rattle.tracering_c.proofs.HeldWalks.{into_Meets}
use Rattle.tracering_c.proofs.held.Held.into_collector.Statement.{statement}
use Rattle.tracering_c.proofs.held.Held.into_collector.Code as code

pub into_collector_spec : {M : Type 1} → statement M
into_collector_spec 𝓤 𝓛 𝓜 𝓡 wired = into_Meets collectors 𝓤 𝓛 𝓜 𝓡 f.Key.name (code.unfolded 𝓤 𝓛.H 𝓜 𝓡 wired)
