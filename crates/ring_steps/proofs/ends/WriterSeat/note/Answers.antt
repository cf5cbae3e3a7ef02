use Rattle.ring_steps.proofs.Notes.{pending_on}
use Rattle.ring_steps.proofs.ends.WriterSeat.note.Goals as goal

pub invariant_of-self-clause-pending : goal.invariant_of-self-clause-pending
invariant_of-self-clause-pending g c = let self = c.args.self.now in
    pending_on self.shape _ _ _ _ self.pending c.requires.due c.ghost_part_of-self.ensures
