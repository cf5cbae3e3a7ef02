use Rattle.tracering_c.specs.contracts.held.Held.of_reader as f
use Rattle.tracering_c.proofs.HeldKinds.{readers}
use Rattle.tracering_c.proofs.HeldWalks.{of_Meets}
use Rattle.tracering_c.proofs.held.Held.of_reader.Statement.{statement}
use Rattle.tracering_c.proofs.held.Held.of_reader.Code as code

pub of_reader_spec : {M : Type 1} → statement M
of_reader_spec 𝓤 𝓛 𝓜 𝓡 wired = of_Meets readers 𝓤 𝓛 𝓜 𝓡 f.Key.name (code.unfolded 𝓤 𝓛.H 𝓜 𝓡 wired)
