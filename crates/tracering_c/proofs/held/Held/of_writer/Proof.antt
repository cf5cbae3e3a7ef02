use Rattle.tracering_c.specs.contracts.held.Held.of_writer as f
use Rattle.tracering_c.proofs.HeldKinds.{writers}
use Rattle.tracering_c.proofs.HeldWalks.{of_Meets}
use Rattle.tracering_c.proofs.held.Held.of_writer.Statement.{statement}
use Rattle.tracering_c.proofs.held.Held.of_writer.Code as code

pub of_writer_spec : {M : Type 1} → statement M
of_writer_spec 𝓤 𝓛 𝓜 𝓡 wired = of_Meets writers 𝓤 𝓛 𝓜 𝓡 f.Key.name (code.unfolded 𝓤 𝓛.H 𝓜 𝓡 wired)
