use Rattle.std.proofs.Common.{rules, Bool, ap, ◌∙◌}
use Rattle.ring_steps.specs.Views.{Reading, writing, reading}
use Rattle.ring_steps.specs.Seats.{kept_slots, without_slot, AreParts}
use Rattle.ring_steps.proofs.Joins.{joins, parts_with_slot}
use Rattle.ring_steps.proofs.Notes.{parts_now}
use Rattle.ring_steps.proofs.settling.settle.Goals as goal

pub join_seat-requires : goal.join_seat-requires
join_seat-requires c = let reader = c.give_back_slot.new.self in (
  search rules,
  search rules,
  reader.is_reading.hand
      ∙ ap (λ (kept : Bool). kept_slots kept (reading reader.seat.me.0).spare)
      (ap (λ (r : Reading). r.keeps_spare) c.give_back_slot.ensures.part),
  search rules,
  joins _ _ _ _ _ _ _ c.args.writer.is_writing.view reader.is_reading.view,
)

pub returns-clause-parts : goal.returns-clause-parts
returns-clause-parts c = let writer = c.args.writer in
    let parts : AreParts writer.shape (writing writer.seat.me.0) (without_slot (reading c.args.reader.seat.me.0)) =
    search rules in
    parts_now writer.shape _ _ _ c.recall.ensures (parts_with_slot writer.shape _ _ parts)
