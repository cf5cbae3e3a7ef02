use Rattle.std.specs.Prelude.{None}
use Rattle.std.proofs.Common.{rules, ◌∙◌, arith}
use Rattle.ring_steps.specs.Views.{writing}
use Rattle.ring_steps.proofs.WriterParts.{now_within, step_reached}
use Rattle.ring_steps.proofs.Paging.{first_slot, release_allowed}
use Rattle.ring_steps.proofs.Notes.{rests, step_noted}
use Rattle.ring_steps.proofs.PartSteps.{part_closed}
use Rattle.ring_steps.specs.Ends.{writing_in}
use Rattle.ring_steps.proofs.ends.WriterSeat.release_fill.Goals as goal

pub exchange-requires : goal.exchange-requires
exchange-requires c = let self = c.args.self.now in
    let within =
    now_within self.shape (writing self.seat.me.0) (writing_in c.args.self.now) self.reached c.recall.ensures in (
      search rules,
      (None, first_slot self.seat.me c.args.number self.is_writing within.0 (c.requires.oldest ∙ within.1)),
    )

pub overflow_add-done : goal.overflow_add-done
overflow_add-done c = let self = c.args.self.now in
    let within =
    now_within self.shape (writing self.seat.me.0) (writing_in c.args.self.now) self.reached c.recall.ensures in
    let below = within.2 in let fill_is = c.requires.written.fill_is in let same = c.fill-fill.ensures in omega arith

pub store-requires-clause-allowed : goal.store-requires-clause-allowed
store-requires-clause-allowed c = let self = c.args.self.now in
    release_allowed self.shape _ _ self.seat.me c.exchange.new.seat.me (writing_in c.args.self.now) c.args.number
    c.fill-fill.result.0 c.args.page
    self.is_writing c.exchange.ensures.3 c.recall.ensures c.requires.phase c.requires.oldest c.requires.written
    (c.fill-fill.ensures ∙ c.requires.written.fill_is)

pub invariant_of-self-clause-is_writing : goal.invariant_of-self-clause-is_writing
invariant_of-self-clause-is_writing c = c.store.ensures.reported.seat

pub invariant_of-self-clause-reached : goal.invariant_of-self-clause-reached
invariant_of-self-clause-reached c = ∣ step_reached c.args.self.now.shape _ _ _ _ c.store.ensures.reported.step ∣₁

pub invariant_of-self-clause-pending : goal.invariant_of-self-clause-pending
invariant_of-self-clause-pending c = rests c.args.self.now.shape _ _ c.ghost_part_known-self.ensures

pub returns-clause-step : goal.returns-clause-step
returns-clause-step c = step_noted _ _ _ _ _ _ c.ghost_part_known-self.ensures c.store.ensures.reported.step

pub returns-clause-part : goal.returns-clause-part
returns-clause-part c = part_closed (returns-clause-step c) c.requires.phase
