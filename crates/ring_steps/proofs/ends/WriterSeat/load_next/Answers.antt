use Rattle.std.proofs.Common.{ℕ, ◌%◌, refl, ap, ◌∙◌, arith}
use Rattle.trace_model.specs.Frames.{looking_next}
use Rattle.trace_model.specs.Ring.{link_into}
use Rattle.trace_model.proofs.words.LinkWords.{no_mark}
use Rattle.link_marks.specs.ModelLinks.{link_of}
use Rattle.ring_steps.specs.Views.{writing}
use Rattle.ring_steps.specs.Ends.{writing_in}
use Rattle.ring_steps.specs.Linking.{noted_on_top, role_on_top}
use Rattle.ring_steps.proofs.WriterMove.{reported_stays, writer_move}
use Rattle.ring_steps.proofs.Linking.{looks_after_lost, load_next_moves}
use Rattle.ring_steps.proofs.LinkBounds.{passed_bounds, seen_as, link_seen}
use Rattle.ring_steps.proofs.Notes.{step_noted}
use Rattle.ring_steps.proofs.PartSteps.{part_next}
use Rattle.ring_steps.proofs.ends.WriterSeat.load_next.Goals as goal

pub load_step-found-requires-clause-word : goal.load_step-found-requires-clause-word
load_step-found-requires-clause-word c = let self = c.args.self.now in let frames = (writing_in self).frames in
    let low =
    (passed_bounds self.shape (writing self.seat.me.0) (writing_in self) self.reached c.recall.ensures
    (looking_next (role_on_top frames) (noted_on_top frames) c.args.page) (noted_on_top frames) c.args.page
    c.requires.phase.phase refl refl).0 in
    omega arith

pub load_step-found-requires-clause-moves : goal.load_step-found-requires-clause-moves
load_step-found-requires-clause-moves c = let self = c.args.self.now in
    writer_move self.shape self.seat.me (writing_in self) _ _ _ self.is_writing c.recall.ensures
    (λ found after reported. reported_stays after reported)
    (λ core r ws homes s now_is pages low.
    load_next_moves self.shape self.seat.me self.is_writing (writing_in self) core r ws homes s now_is pages low
    c.args.page c.args.after_lost.0 c.requires.phase)

pub link_in-requires : goal.link_in-requires
link_in-requires c =
    record {
      mark =
          λ three. no_mark _ (ap (λ (word : ℕ). word % 4) c.load_step-found.ensures.reported.step.seen.1 ∙ three);
    }

pub returns-clause-step : goal.returns-clause-step
returns-clause-step c = let self = c.args.self.now in
    seen_as self.shape _ _ _ _ _
    (λ core reached seen.
    ap (link_into self.shape.pages core.links)
    (looks_after_lost self.shape.pages (writing_in self) c.args.page c.args.after_lost.0 c.requires.phase)
    ∙ link_seen self.shape self.table.pages_fit _ _ (link_of c.link_in.result) c.link_in.ensures.fits core reached
    seen.1 c.link_in.ensures.word)
    (step_noted _ _ _ _ _ _ c.load_step-found.ensures.known c.load_step-found.ensures.reported.step)

pub returns-clause-part : goal.returns-clause-part
returns-clause-part c = let s = returns-clause-step c in
    part_next s c.args.page c.args.after_lost.0 (link_of c.link_in.result) c.requires.phase s.seen _ _ refl refl
