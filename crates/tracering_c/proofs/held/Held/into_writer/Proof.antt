use Rattle.tracering_c.specs.contracts.held.Held.into_writer as f
use Rattle.tracering_c.proofs.HeldKinds.{writers}
use Rattle.tracering_c.proofs.HeldWalks.{into_Meets}
use Rattle.tracering_c.proofs.held.Held.into_writer.Statement.{statement}
use Rattle.tracering_c.proofs.held.Held.into_writer.Code as code

pub into_writer_spec : {M : Type 1} → statement M
into_writer_spec 𝓤 𝓛 𝓜 𝓡 wired = into_Meets writers 𝓤 𝓛 𝓜 𝓡 f.Key.name (code.unfolded 𝓤 𝓛.H 𝓜 𝓡 wired)
