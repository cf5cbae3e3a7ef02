use Rattle.trace_model.specs.Steps.{pushes}
use Rattle.ring_steps.specs.Ends.{writing_in}
use Rattle.ring_steps.specs.Notes.{part_after}
use Rattle.ring_steps.proofs.ends.WriterSeat.note_push.Given as goal

abbrev pub ghosts-note : goal.ghosts-note
ghosts-note a =
    record { now = part_after a.self.now.shape (writing_in a.self.now) (pushes a.given.now.0 a.given.now.1) }
