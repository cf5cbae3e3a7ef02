use Rattle.tracering_c.specs.contracts.held.Held.writer as f
use Rattle.tracering_c.proofs.HeldKinds.{writers}
use Rattle.tracering_c.proofs.HeldWalks.{lend_Meets}
use Rattle.tracering_c.proofs.held.Held.writer.Statement.{statement}
use Rattle.tracering_c.proofs.held.Held.writer.Code as code

pub writer_spec : {M : Type 1} → statement M
writer_spec 𝓤 𝓛 𝓜 𝓡 wired = lend_Meets writers 𝓤 𝓛 𝓜 𝓡 f.Key.name (code.unfolded 𝓤 𝓛.H 𝓜 𝓡 wired)
