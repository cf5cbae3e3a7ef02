use Rattle.ring_steps.specs.Ends.{writing_in}
use Rattle.ring_steps.proofs.WriterMove.{wish_stays, writer_move}
use Rattle.ring_steps.proofs.Linking.{load_wish_moves}
use Rattle.ring_steps.proofs.Notes.{step_noted}
use Rattle.ring_steps.proofs.PartSteps.{part_asked}
use Rattle.ring_steps.proofs.ends.WriterSeat.load_wish.Goals as goal

pub load_step-requires-clause-moves : goal.load_step-requires-clause-moves
load_step-requires-clause-moves c = let self = c.args.self.now in
    writer_move self.shape self.seat.me (writing_in self) _ _ _ self.is_writing c.recall.ensures
    (λ found after reported. wish_stays after reported)
    (λ core r ws homes s now_is pages low.
    load_wish_moves self.shape self.seat.me self.is_writing (writing_in self) core r ws homes s now_is pages low
    c.requires.phase)

pub returns-clause-step : goal.returns-clause-step
returns-clause-step c = (
  c.load_step.ensures.reported.answer,
  (step_noted _ _ _ _ _ _ c.load_step.ensures.known c.load_step.ensures.reported.step),
)

pub returns-clause-part : goal.returns-clause-part
returns-clause-part c = let s = (returns-clause-step c).1 in part_asked s c.load_step.result c.requires.phase s.seen
