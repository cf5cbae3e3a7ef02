use Rattle.std.specs.Prelude.{true, ◌==◌, ◌↔◌}
use Rattle.std.proofs.Common.{◌≡◌, ℕ, ◌-◌, sym, subst, arith}
use Rattle.trace_model.specs.Links.{update_link}
use Rattle.trace_model.specs.Ring.{link_into}
use Rattle.ring_steps.specs.Ends.{writing_in}
use Rattle.ring_steps.proofs.WriterMove.{reported_stays, writer_move}
use Rattle.ring_steps.proofs.Linking.{clears_noted, clear_moves}
use Rattle.ring_steps.proofs.LinkBounds.{clear_fits, cleared_update, seen_as, done_seen}
use Rattle.ring_steps.proofs.Notes.{step_noted}
use Rattle.ring_steps.proofs.PartSteps.{part_cleared}
use Rattle.ring_steps.proofs.ends.WriterSeat.clear_update.Goals as goal

pub overflow_sub-noted : goal.overflow_sub-noted
overflow_sub-noted c =
    (clear_fits c.args.self.now c.args.page c.args.noted.0 c.args.front c.recall.ensures c.requires.phase
    c.requires.front).round

pub update_word-from-requires : goal.update_word-from-requires
update_word-from-requires c =
    let fits =
    clear_fits c.args.self.now c.args.page c.args.noted.0 c.args.front c.recall.ensures c.requires.phase
    c.requires.front in
    record { page_fits = fits.page_fits; fill_fits = fits.lost_fits }

pub normal_word-to-requires : goal.normal_word-to-requires
normal_word-to-requires c =
    let fits =
    clear_fits c.args.self.now c.args.page c.args.noted.0 c.args.front c.recall.ensures c.requires.phase
    c.requires.front in
    record { page_fits = fits.page_fits; fill_fits = fits.noted_fits }

pub compare_exchange_step-found-requires-clause-word : goal.compare_exchange_step-found-requires-clause-word
compare_exchange_step-found-requires-clause-word c =
    let low =
    (clear_fits c.args.self.now c.args.page c.args.noted.0 c.args.front c.recall.ensures c.requires.phase
    c.requires.front).front_fits in
    omega arith

pub compare_exchange_step-found-requires-clause-moves : goal.compare_exchange_step-found-requires-clause-moves
compare_exchange_step-found-requires-clause-moves c = let self = c.args.self.now in
    let enough =
    (clear_fits self c.args.page c.args.noted.0 c.args.front c.recall.ensures
    c.requires.phase c.requires.front).round in
    writer_move self.shape self.seat.me (writing_in self) _ _ _ self.is_writing c.recall.ensures
    (λ found after reported. reported_stays after reported)
    (λ core r ws homes s now_is pages low.
    clear_moves self.shape self.seat.me self.is_writing (writing_in self) core r ws homes s now_is pages low
    c.args.front c.args.page (c.args.noted.0 - self.shape.pages) c.args.noted.0 c.update_word-from.result
    c.normal_word-to.result c.requires.front c.requires.phase (omega arith) c.update_word-from.ensures
    c.normal_word-to.ensures)

-- the exchange was done if and only if the frame's own UPDATE was there
pub returns-clause-step : goal.returns-clause-step
returns-clause-step c = let self = c.args.self.now in
    let fits =
    clear_fits self c.args.page c.args.noted.0 c.args.front c.recall.ensures c.requires.phase c.requires.front in
    seen_as self.shape _ _ _ _ _
    (λ core reached seen.
    subst (λ (fill : ℕ).
    ((c.compare_exchange_step-found.result == c.update_word-from.result) ≡ true)
    ↔ (link_into self.shape.pages core.links fill
    ≡ update_link c.args.page (c.args.noted.0 - self.shape.pages)))
    (sym (clears_noted (writing_in self) c.args.page c.args.noted.0 c.requires.phase))
    (done_seen self.shape self.table.pages_fit _ _ (update_link c.args.page (c.args.noted.0 - self.shape.pages))
    record { page_fits = fits.page_fits; fill_fits = fits.lost_fits }
    core reached seen.1 c.update_word-from.result c.update_word-from.ensures))
    (step_noted _ _ _ _ _ _ c.compare_exchange_step-found.ensures.known
    c.compare_exchange_step-found.ensures.reported.step)

-- and it was
pub returns-clause-done : goal.returns-clause-done
returns-clause-done c = let self = c.args.self.now in
    let enough =
    (clear_fits self c.args.page c.args.noted.0 c.args.front c.recall.ensures
    c.requires.phase c.requires.front).round in
    let s = returns-clause-step c in
    s.seen.1 (cleared_update self.shape (writing_in self) c.args.page c.args.noted.0 (c.args.noted.0 - self.shape.pages)
    _ _ _ c.requires.phase (omega arith) s)

pub returns-clause-part : goal.returns-clause-part
returns-clause-part c = part_cleared (returns-clause-step c) c.args.page c.args.noted.0 c.requires.phase
