use Rattle.std.proofs.Common.{arith}
use Rattle.trace_model.specs.Links.{header_link}
use Rattle.ring_steps.specs.Views.{writing}
use Rattle.ring_steps.specs.Ends.{writing_in}
use Rattle.ring_steps.proofs.WriterMove.{claim_stays, writer_move}
use Rattle.ring_steps.proofs.Linking.{claim_moves}
use Rattle.ring_steps.proofs.LinkBounds.{tail_bounds, seen_as, done_seen}
use Rattle.ring_steps.proofs.Notes.{step_noted}
use Rattle.ring_steps.proofs.PartSteps.{part_claimed}
use Rattle.ring_steps.proofs.ends.WriterSeat.claim_head.Goals as goal

pub header_word-from-requires-clause-fill_fits : goal.header_word-from-requires-clause-fill_fits
header_word-from-requires-clause-fill_fits c = let self = c.args.self.now in
    let low = (tail_bounds self.shape (writing self.seat.me.0) (writing_in self) self.reached c.recall.ensures).1 in
    let sum = c.requires.lost in
    omega arith

pub compare_exchange_step-found-requires-clause-word : goal.compare_exchange_step-found-requires-clause-word
compare_exchange_step-found-requires-clause-word c = let self = c.args.self.now in
    let low = (tail_bounds self.shape (writing self.seat.me.0) (writing_in self) self.reached c.recall.ensures).0 in
    let tail = c.requires.tail in
    omega arith

pub compare_exchange_step-found-requires-clause-moves : goal.compare_exchange_step-found-requires-clause-moves
compare_exchange_step-found-requires-clause-moves c = let self = c.args.self.now in
    writer_move self.shape self.seat.me (writing_in self) _ _ _ self.is_writing c.recall.ensures
    (λ found after reported. claim_stays after reported)
    (λ core r ws homes s now_is pages low.
    claim_moves self.shape self.seat.me self.is_writing (writing_in self) core r ws homes s now_is pages low
    c.args.tail c.args.page c.args.lost.0 c.header_word-from.result c.update_word-to.result c.requires.tail
    c.requires.phase c.requires.lost c.requires.fits c.header_word-from.ensures c.update_word-to.ensures)

pub returns-clause-passed : goal.returns-clause-passed
returns-clause-passed c = let behind = c.compare_exchange_step-found.ensures.reported.lost in
    let sum = c.requires.lost in
    omega arith

pub returns-clause-step : goal.returns-clause-step
returns-clause-step c = let self = c.args.self.now in
    let low = (tail_bounds self.shape (writing self.seat.me.0) (writing_in self) self.reached c.recall.ensures).1 in
    let sum = c.requires.lost in
    seen_as self.shape _ _ _ _ _
    (λ core reached seen.
    done_seen self.shape self.table.pages_fit _ _ (header_link c.args.page c.args.lost.0)
    record { page_fits = c.requires.fits; fill_fits = omega arith } core reached seen.1
    c.header_word-from.result c.header_word-from.ensures)
    (step_noted _ _ _ _ _ _ c.compare_exchange_step-found.ensures.known
    c.compare_exchange_step-found.ensures.reported.reported.step)

pub returns-clause-part : goal.returns-clause-part
returns-clause-part c = let s = returns-clause-step c in
    part_claimed s _ c.args.page c.args.lost.0 c.requires.phase c.requires.lost s.seen
