use Rattle.ring_steps.specs.Ends.{writing_in}
use Rattle.ring_steps.proofs.PartAfter.{push_leads}
use Rattle.ring_steps.proofs.ends.WriterSeat.note_push.Goals as goal

pub note-requires : goal.note-requires
note-requires c =
    record { due = push_leads c.args.self.now.shape (writing_in c.args.self.now) c.args.moment c.args.len }
