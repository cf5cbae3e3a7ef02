use Rattle.std.specs.Prelude.{true, ◌==◌, ◌↔◌}
use Rattle.std.proofs.Common.{◌≡◌, ℕ, refl, sym, subst, arith}
use Rattle.trace_model.specs.Links.{normal_link}
use Rattle.trace_model.specs.Frames.{marking}
use Rattle.trace_model.specs.Ring.{link_into}
use Rattle.ring_steps.specs.Views.{writing}
use Rattle.ring_steps.specs.Ends.{writing_in}
use Rattle.ring_steps.specs.Linking.{noted_on_top, role_on_top}
use Rattle.ring_steps.proofs.WriterMove.{reported_stays, writer_move}
use Rattle.ring_steps.proofs.Linking.{marks_after_lost, mark_moves}
use Rattle.ring_steps.proofs.LinkBounds.{passed_bounds, after_lost_fits, seen_as, done_seen}
use Rattle.ring_steps.proofs.Notes.{step_noted}
use Rattle.ring_steps.proofs.PartSteps.{part_marked}
use Rattle.ring_steps.proofs.ends.WriterSeat.mark_head.Goals as goal

pub normal_word-from-requires-clause-fill_fits : goal.normal_word-from-requires-clause-fill_fits
normal_word-from-requires-clause-fill_fits c = let self = c.args.self.now in
    after_lost_fits self.shape (writing self.seat.me.0) (writing_in self) self.reached c.recall.ensures c.args.page
    c.args.next c.args.after_lost.0 c.requires.phase

pub compare_exchange_step-found-requires-clause-word : goal.compare_exchange_step-found-requires-clause-word
compare_exchange_step-found-requires-clause-word c = let self = c.args.self.now in
    let frames = (writing_in self).frames in
    let low =
    (passed_bounds self.shape (writing self.seat.me.0) (writing_in self) self.reached c.recall.ensures
    (marking (role_on_top frames) (noted_on_top frames) c.args.page c.args.next) (noted_on_top frames) c.args.page
    c.requires.phase.phase refl refl).0 in
    omega arith

pub compare_exchange_step-found-requires-clause-moves : goal.compare_exchange_step-found-requires-clause-moves
compare_exchange_step-found-requires-clause-moves c = let self = c.args.self.now in
    writer_move self.shape self.seat.me (writing_in self) _ _ _ self.is_writing c.recall.ensures
    (λ found after reported. reported_stays after reported)
    (λ core r ws homes s now_is pages low.
    mark_moves self.shape self.seat.me self.is_writing (writing_in self) core r ws homes s now_is pages low
    c.args.page c.args.next c.args.after_lost.0 c.normal_word-from.result c.header_word-to.result c.requires.phase
    c.requires.fits c.normal_word-from.ensures c.header_word-to.ensures)

pub returns-clause-step : goal.returns-clause-step
returns-clause-step c = let self = c.args.self.now in
    seen_as self.shape _ _ _ _ _
    (λ core reached seen.
    subst (λ (fill : ℕ).
    ((c.compare_exchange_step-found.result == c.normal_word-from.result) ≡ true)
    ↔ (link_into self.shape.pages core.links fill ≡ normal_link c.args.next c.args.after_lost.0))
    (sym
    (marks_after_lost self.shape.pages (writing_in self) c.args.page c.args.next c.args.after_lost.0 c.requires.phase))
    (done_seen self.shape self.table.pages_fit _ _ (normal_link c.args.next c.args.after_lost.0)
    record {
      page_fits = c.requires.fits;
      fill_fits =
          after_lost_fits self.shape (writing self.seat.me.0) (writing_in self) self.reached c.recall.ensures
          c.args.page c.args.next c.args.after_lost.0 c.requires.phase;
    }
    core reached seen.1 c.normal_word-from.result c.normal_word-from.ensures))
    (step_noted _ _ _ _ _ _ c.compare_exchange_step-found.ensures.known
    c.compare_exchange_step-found.ensures.reported.step)

pub returns-clause-part : goal.returns-clause-part
returns-clause-part c = part_marked (returns-clause-step c) c.args.page c.args.next c.args.after_lost.0 c.requires.phase
