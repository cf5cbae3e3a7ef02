use Rattle.tracering_c.specs.contracts.held.Held.reader as f
use Rattle.tracering_c.proofs.HeldKinds.{readers}
use Rattle.tracering_c.proofs.HeldWalks.{lend_Meets}
use Rattle.tracering_c.proofs.held.Held.reader.Statement.{statement}
use Rattle.tracering_c.proofs.held.Held.reader.Code as code

pub reader_spec : {M : Type 1} → statement M
reader_spec 𝓤 𝓛 𝓜 𝓡 wired = lend_Meets readers 𝓤 𝓛 𝓜 𝓡 f.Key.name (code.unfolded 𝓤 𝓛.H 𝓜 𝓡 wired)
