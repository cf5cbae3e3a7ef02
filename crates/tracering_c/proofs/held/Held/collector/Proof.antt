use Rattle.tracering_c.specs.contracts.held.Held.collector as f
use Rattle.tracering_c.proofs.HeldKinds.{collectors}
use Rattle.tracering_c.proofs.HeldWalks.{lend_Meets}
use Rattle.tracering_c.proofs.held.Held.collector.Statement.{statement}
use Rattle.tracering_c.proofs.held.Held.collector.Code as code

pub collector_spec : {M : Type 1} → statement M
collector_spec 𝓤 𝓛 𝓜 𝓡 wired = lend_Meets collectors 𝓤 𝓛 𝓜 𝓡 f.Key.name (code.unfolded 𝓤 𝓛.H 𝓜 𝓡 wired)
