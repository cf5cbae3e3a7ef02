use Rattle.ring_steps.specs.Ends.{writing_in}
use Rattle.ring_shared.proofs.PartAfterWrite.{part_after_write}
use Rattle.ring_shared.proofs.writer.Writer.write_at_once.Given as goal

abbrev pub ghosts-note : goal.ghosts-note
ghosts-note a =
    record { now = part_after_write a.self.now.shape (writing_in a.self.now) a.given.now.0 a.given.now.1.now }
