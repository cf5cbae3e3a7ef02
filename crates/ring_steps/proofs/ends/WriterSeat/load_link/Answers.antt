use Rattle.std.proofs.Common.{ℕ, ◌%◌, ap, ◌∙◌, arith}
use Rattle.trace_model.proofs.words.LinkWords.{no_mark}
use Rattle.link_marks.specs.ModelLinks.{mark_of, link_of}
use Rattle.ring_steps.specs.Views.{writing}
use Rattle.ring_steps.specs.Ends.{writing_in}
use Rattle.ring_steps.proofs.WriterMove.{reported_stays, writer_move}
use Rattle.ring_steps.proofs.Linking.{load_link_moves}
use Rattle.ring_steps.proofs.LinkBounds.{tail_bounds, seen_as, link_seen}
use Rattle.ring_steps.proofs.Notes.{step_noted}
use Rattle.ring_steps.proofs.LinkMoves.{says_normal}
use Rattle.ring_steps.proofs.PartSteps.{part_found, fill_found}
use Rattle.ring_steps.proofs.ends.WriterSeat.load_link.Goals as goal

pub load_step-found-requires-clause-word : goal.load_step-found-requires-clause-word
load_step-found-requires-clause-word c = let self = c.args.self.now in
    let low = (tail_bounds self.shape (writing self.seat.me.0) (writing_in self) self.reached c.recall.ensures).0 in
    let tail = c.requires.tail in
    omega arith

pub load_step-found-requires-clause-moves : goal.load_step-found-requires-clause-moves
load_step-found-requires-clause-moves c = let self = c.args.self.now in
    writer_move self.shape self.seat.me (writing_in self) _ _ _ self.is_writing c.recall.ensures
    (λ found after reported. reported_stays after reported)
    (λ core r ws homes s now_is pages low.
    load_link_moves self.shape self.seat.me self.is_writing (writing_in self) core r ws homes s now_is pages low
    c.args.tail c.requires.tail c.requires.phase)

pub link_in-requires : goal.link_in-requires
link_in-requires c =
    record {
      mark =
          λ three. no_mark _ (ap (λ (word : ℕ). word % 4) c.load_step-found.ensures.reported.step.seen.1 ∙ three);
    }

pub returns-clause-step : goal.returns-clause-step
returns-clause-step c = let self = c.args.self.now in
    seen_as self.shape _ _ _ _ _
    (λ core reached seen. (
      seen.0,
      link_seen self.shape self.table.pages_fit _ _ (link_of c.link_in.result) c.link_in.ensures.fits core reached
          seen.1 c.link_in.ensures.word,
    ))
    (step_noted _ _ _ _ _ _ c.load_step-found.ensures.known c.load_step-found.ensures.reported.step)

pub returns-clause-next : goal.returns-clause-next
returns-clause-next c = let s = returns-clause-step c in
    λ is. (fill_found s (link_of c.link_in.result) c.requires.phase s.seen.1).0 (ap mark_of is)

pub returns-clause-lost : goal.returns-clause-lost
returns-clause-lost c = let s = returns-clause-step c in
    λ other.
    (fill_found s (link_of c.link_in.result) c.requires.phase s.seen.1).1
    (λ is. other (says_normal c.link_in.result.mark is))

pub returns-clause-part : goal.returns-clause-part
returns-clause-part c = let s = returns-clause-step c in
    part_found s (link_of c.link_in.result) c.requires.phase s.seen.1
