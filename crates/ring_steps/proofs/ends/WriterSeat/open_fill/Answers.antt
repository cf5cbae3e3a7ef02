use Rattle.std.specs.Prelude.{Some}
use Rattle.std.proofs.Common.{rules, sym, ◌∙◌, arith}
use Rattle.ring_model.proofs.links.FramePhases.{none_some}
use Rattle.ring_steps.specs.Views.{writing}
use Rattle.ring_steps.proofs.WriterParts.{now_within, step_reached}
use Rattle.ring_steps.proofs.Paging.{open_allowed, opened_slot, opened_body, opened_size, opened_seat}
use Rattle.ring_steps.proofs.Notes.{rests, step_noted}
use Rattle.ring_steps.proofs.PartSteps.{part_begun}
use Rattle.ring_steps.specs.Ends.{writing_in}
use Rattle.ring_steps.proofs.ends.WriterSeat.open_fill.Goals as goal

pub overflow_add-fill : goal.overflow_add-fill
overflow_add-fill c = let self = c.args.self.now in
    let within =
    now_within self.shape (writing self.seat.me.0) (writing_in c.args.self.now) self.reached c.recall.ensures in
    let low = within.3 in let next = c.requires.next in omega arith

pub store-requires-clause-allowed : goal.store-requires-clause-allowed
store-requires-clause-allowed c = let self = c.args.self.now in
    open_allowed self.shape _ _ self.seat.me (writing_in c.args.self.now) c.args.number c.args.fill.0 self.is_writing
    c.recall.ensures c.requires.phase c.requires.next

pub exchange-requires : goal.exchange-requires
exchange-requires c = let reported = c.store.ensures.reported in (
  search rules,
  (
    Some reported.body,
    opened_slot c.args.self.now.shape (writing_in c.args.self.now) _ c.store.new.seat.me reported c.args.number
        c.args.fill.0 c.requires.phase,
  ),
)

pub unreachable-requires : goal.unreachable-requires
unreachable-requires c =
    none_some (sym c.in_default.is
    ∙ opened_body c.args.self.now.shape (writing_in c.args.self.now) _ c.store.new.seat.me
    c.store.ensures.reported c.args.number c.args.fill.0 c.requires.phase c.exchange.result
    c.exchange.ensures.2)

pub invariant_of-self-clause-is_writing : goal.invariant_of-self-clause-is_writing
invariant_of-self-clause-is_writing c =
    let reported =
    opened_seat c.args.self.now.shape (writing_in c.args.self.now) _ c.store.new.seat.me c.store.ensures.reported
    c.args.number c.args.fill.0 c.requires.phase
    c.exchange.new.seat.me c.turn.new.self.me c.exchange.ensures.3 c.turn.ensures.2 in reported.seat

pub invariant_of-self-clause-reached : goal.invariant_of-self-clause-reached
invariant_of-self-clause-reached c =
    let reported =
    opened_seat c.args.self.now.shape (writing_in c.args.self.now) _ c.store.new.seat.me c.store.ensures.reported
    c.args.number c.args.fill.0 c.requires.phase
    c.exchange.new.seat.me c.turn.new.self.me c.exchange.ensures.3 c.turn.ensures.2 in
    ∣ step_reached c.args.self.now.shape _ _ _ _ reported.step ∣₁

pub invariant_of-self-clause-pending : goal.invariant_of-self-clause-pending
invariant_of-self-clause-pending c = rests c.args.self.now.shape _ _ c.ghost_part_known-self.ensures

pub returns-clause-step : goal.returns-clause-step
returns-clause-step c =
    let reported =
    opened_seat c.args.self.now.shape (writing_in c.args.self.now) _ c.store.new.seat.me c.store.ensures.reported
    c.args.number c.args.fill.0 c.requires.phase
    c.exchange.new.seat.me c.turn.new.self.me c.exchange.ensures.3 c.turn.ensures.2 in
    step_noted _ _ _ _ _ _ c.ghost_part_known-self.ensures reported.step

pub returns-clause-body : goal.returns-clause-body
returns-clause-body c =
    c.into_body.ensures
    ∙ opened_size c.args.self.now.shape (writing_in c.args.self.now) _ c.store.new.seat.me c.store.ensures.reported
    c.args.number c.args.fill.0 c.requires.phase
    c.exchange.result c.in-Some.page c.exchange.ensures.2 c.in-Some.is

pub returns-clause-part : goal.returns-clause-part
returns-clause-part c = part_begun (returns-clause-step c) c.args.number c.args.fill.0 c.requires.phase c.requires.next
