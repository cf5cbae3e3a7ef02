use Rattle.trace_model.specs.Steps.{ends}
use Rattle.ring_steps.specs.Ends.{writing_in}
use Rattle.ring_steps.specs.Notes.{part_after}
use Rattle.ring_frames.specs.Answers.{top_bytes}
use Rattle.ring_shared.proofs.writer.Writer.end.Given as goal

abbrev pub ghosts-note : goal.ghosts-note
ghosts-note a =
    record {
      now =
          part_after a.self.now.shape (writing_in a.self.now)
          (ends (top_bytes a.given.now.stack a.given.now.stack.frames));
    }
