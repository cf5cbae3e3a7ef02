use Rattle.std.proofs.Common.{ap, arith}
use Rattle.ring_steps.proofs.Notes.{rests}
use Rattle.ring_steps.proofs.ends.WriterSeat.load_step.Goals as goal

pub load-found-requires-clause-word : goal.load-found-requires-clause-word
load-found-requires-clause-word g c = let words = c.args.self.now.table.words in
    let same = ap (λ z. z.shared.table_id.words) c.deref.ensures in
    let low = c.requires.word in
    omega arith

pub load-found-requires-clause-allowed : goal.load-found-requires-clause-allowed
load-found-requires-clause-allowed g c = c.requires.moves.allowed _ _

pub invariant_of-self-clause-is_writing : goal.invariant_of-self-clause-is_writing
invariant_of-self-clause-is_writing g c = (c.requires.moves.stays _ _ c.load-found.ensures.reported).seat

pub invariant_of-self-clause-reached : goal.invariant_of-self-clause-reached
invariant_of-self-clause-reached g c = ∣ (c.requires.moves.stays _ _ c.load-found.ensures.reported).reached ∣₁

pub invariant_of-self-clause-pending : goal.invariant_of-self-clause-pending
invariant_of-self-clause-pending g c = rests c.args.self.now.shape _ _ c.ghost_part_known-self.ensures
