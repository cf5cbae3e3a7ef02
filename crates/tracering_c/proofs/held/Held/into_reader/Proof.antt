use Rattle.tracering_c.specs.contracts.held.Held.into_reader as f
use Rattle.tracering_c.proofs.HeldKinds.{readers}
use Rattle.tracering_c.proofs.HeldWalks.{into_Meets}
use Rattle.tracering_c.proofs.held.Held.into_reader.Statement.{statement}
use Rattle.tracering_c.proofs.held.Held.into_reader.Code as code

pub into_reader_spec : {M : Type 1} → statement M
into_reader_spec 𝓤 𝓛 𝓜 𝓡 wired = into_Meets readers 𝓤 𝓛 𝓜 𝓡 f.Key.name (code.unfolded 𝓤 𝓛.H 𝓜 𝓡 wired)
