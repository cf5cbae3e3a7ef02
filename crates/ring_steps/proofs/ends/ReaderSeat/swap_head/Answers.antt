use Rattle.std.proofs.Common.{sym, ap, ◌∙◌, arith}
use Rattle.page_image.specs.Contents.{Contents}
use Rattle.ring_steps.proofs.Swaps.{swap_allowed, reported_before, taken_slot, taken_seat, taken_reported, missed_slot}
use Rattle.ring_steps.proofs.Swaps.{missed_seat, missed_reported, missed_page}
use Rattle.ring_steps.proofs.ends.ReaderSeat.swap_head.Goals as goal

pub compare_exchange-requires-clause-allowed : goal.compare_exchange-requires-clause-allowed
compare_exchange-requires-clause-allowed c = let self = c.args.self.now in
    let numbers = self.within.swaps c.args.page c.args.fill.0 c.requires.due in
    swap_allowed self.shape self.seat.me c.exchange.new.seat.me c.args.page c.args.fill.0 c.args.spare
    c.fresh-blank.result self.is_reading c.requires.due c.requires.kept c.requires.spare c.exchange.ensures.3
    _ _ c.args.front c.header_word-from.result c.normal_word-to.result
    (ap (λ (p : Contents). p.size) c.fresh-blank.ensures.blank ∙ c.requires.size) c.requires.front
    record { page_fits = c.requires.fits; fill_fits = omega arith } c.header_word-from.ensures
    c.normal_word-to.ensures

-- ---- the head is taken

pub lift-requires-clause-slot : goal.lift-requires-clause-slot
lift-requires-clause-slot c = let self = c.args.self.now in
    taken_slot self.shape self.seat.me c.compare_exchange.new.seat.me c.compare_exchange.new.seat.me c.args.page
    c.args.fill.0 c.compare_exchange.result c.fresh-blank.result
    (reported_before self.shape self.seat.me c.exchange.new.seat.me c.args.page c.args.fill.0 c.args.spare
    c.fresh-blank.result self.is_reading c.requires.due c.requires.kept c.requires.spare c.exchange.ensures.3 _ _
    c.compare_exchange.ensures.reported)
    (c.if-compare_exchange-from.true ∙ c.header_word-from.ensures)

pub invariant_of-self-clause-is_reading : goal.invariant_of-self-clause-is_reading
invariant_of-self-clause-is_reading c = let self = c.args.self.now in
    taken_seat self.shape self.seat.me c.compare_exchange.new.seat.me c.lift.new.seat.me c.args.page c.args.fill.0
    c.compare_exchange.result c.fresh-blank.result
    (reported_before self.shape self.seat.me c.exchange.new.seat.me c.args.page c.args.fill.0 c.args.spare
    c.fresh-blank.result self.is_reading c.requires.due c.requires.kept c.requires.spare c.exchange.ensures.3 _ _
    c.compare_exchange.ensures.reported)
    (c.if-compare_exchange-from.true ∙ c.header_word-from.ensures) c.lift.ensures.seat

pub returns-then-compare_exchange-from-clause-taken : goal.returns-then-compare_exchange-from-clause-taken
returns-then-compare_exchange-from-clause-taken c = let self = c.args.self.now in
    taken_reported self.shape self.seat.me c.compare_exchange.new.seat.me c.lift.new.seat.me c.args.page c.args.fill.0
    c.compare_exchange.result c.fresh-blank.result
    (reported_before self.shape self.seat.me c.exchange.new.seat.me c.args.page c.args.fill.0 c.args.spare
    c.fresh-blank.result self.is_reading c.requires.due c.requires.kept c.requires.spare c.exchange.ensures.3 _ _
    c.compare_exchange.ensures.reported)
    (c.if-compare_exchange-from.true ∙ c.header_word-from.ensures) c.lift.ensures.seat c.lift.result c.lift.ensures.page

-- ---- it wasn't there

pub lift-requires-else-compare_exchange-from-clause-slot : goal.lift-requires-else-compare_exchange-from-clause-slot
lift-requires-else-compare_exchange-from-clause-slot c = let self = c.args.self.now in
    missed_slot self.shape self.seat.me c.compare_exchange.new.seat.me c.compare_exchange.new.seat.me c.args.page
    c.args.fill.0 c.compare_exchange.result c.fresh-blank.result
    (reported_before self.shape self.seat.me c.exchange.new.seat.me c.args.page c.args.fill.0 c.args.spare
    c.fresh-blank.result self.is_reading c.requires.due c.requires.kept c.requires.spare c.exchange.ensures.3 _ _
    c.compare_exchange.ensures.reported)
    (λ same. c.if-compare_exchange-from.false (same ∙ sym c.header_word-from.ensures)) c.args.spare c.requires.spare

pub invariant_of-self-else-compare_exchange-from-clause-is_reading :
    goal.invariant_of-self-else-compare_exchange-from-clause-is_reading
invariant_of-self-else-compare_exchange-from-clause-is_reading c = let self = c.args.self.now in
    missed_seat self.shape self.seat.me c.compare_exchange.new.seat.me c.lift-else-compare_exchange-from.new.seat.me
    c.args.page c.args.fill.0 c.compare_exchange.result c.fresh-blank.result
    (reported_before self.shape self.seat.me c.exchange.new.seat.me c.args.page c.args.fill.0 c.args.spare
    c.fresh-blank.result self.is_reading c.requires.due c.requires.kept c.requires.spare c.exchange.ensures.3 _ _
    c.compare_exchange.ensures.reported)
    (λ same. c.if-compare_exchange-from.false (same ∙ sym c.header_word-from.ensures)) c.args.spare c.requires.spare
    c.lift-else-compare_exchange-from.ensures.seat

pub returns-else-compare_exchange-from-clause-failed : goal.returns-else-compare_exchange-from-clause-failed
returns-else-compare_exchange-from-clause-failed c = let self = c.args.self.now in
    missed_reported self.shape self.seat.me c.compare_exchange.new.seat.me c.lift-else-compare_exchange-from.new.seat.me
    c.args.page c.args.fill.0 c.compare_exchange.result c.fresh-blank.result
    (reported_before self.shape self.seat.me c.exchange.new.seat.me c.args.page c.args.fill.0 c.args.spare
    c.fresh-blank.result self.is_reading c.requires.due c.requires.kept c.requires.spare c.exchange.ensures.3 _ _
    c.compare_exchange.ensures.reported)
    (λ same. c.if-compare_exchange-from.false (same ∙ sym c.header_word-from.ensures)) c.args.spare c.requires.spare
    c.lift-else-compare_exchange-from.ensures.seat

pub returns-else-compare_exchange-from-clause-given_back : goal.returns-else-compare_exchange-from-clause-given_back
returns-else-compare_exchange-from-clause-given_back c = let self = c.args.self.now in
    c.into_body.ensures
    ∙ ap (λ (p : Contents). p.size)
    (missed_page self.shape self.seat.me c.compare_exchange.new.seat.me
    c.lift-else-compare_exchange-from.new.seat.me c.args.page c.args.fill.0 c.compare_exchange.result
    c.fresh-blank.result
    (reported_before self.shape self.seat.me c.exchange.new.seat.me c.args.page c.args.fill.0 c.args.spare
    c.fresh-blank.result self.is_reading c.requires.due c.requires.kept c.requires.spare c.exchange.ensures.3 _ _
    c.compare_exchange.ensures.reported)
    (λ same. c.if-compare_exchange-from.false (same ∙ sym c.header_word-from.ensures)) c.args.spare c.requires.spare
    c.lift-else-compare_exchange-from.result c.lift-else-compare_exchange-from.ensures.page
    ∙ c.fresh-blank.ensures.blank)
