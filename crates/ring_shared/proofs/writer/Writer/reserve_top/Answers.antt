use Rattle.std.proofs.Common.{◌<◌, refl, sym, ◌∙◌, subst, arith}
use Rattle.ring_frames.specs.declared.answer.Answer.{Answer}
use Rattle.ring_steps.specs.declared.rule.Shape.{Shape}
use Rattle.ring_shared.specs.Value.{WriterValue}
use Rattle.ring_shared.specs.Nearer.{rank_of}
use Rattle.ring_shared.specs.Finishing.{Reserves}
use Rattle.ring_shared.proofs.Targets.{lacks_slot}
use Rattle.ring_shared.proofs.Depths.{reserving_top}
use Rattle.ring_shared.proofs.Finishes.{IsStillReserving, reserving_unnumbered, reserving_first, reserving_on}
use Rattle.ring_shared.proofs.Finishes.{reserving_stands, reserving_ends, call_in, same_writer}
use Rattle.ring_shared.proofs.Turning.{part_way_turned, same_turned}
use Rattle.ring_frames.proofs.Payloads.{same_stack, kept_then}
use Rattle.ring_shared.specs.Calls.{IsWriter}
use Rattle.ring_shared.proofs.writer.Writer.reserve_top.Goals as goal

pub loop-last-init : goal.loop-last-init
unfolding IsWriter
loop-last-init c =
    let (frame, below, top, reserves) = c.requires.top in
    let v : WriterValue = c.args.self.now in
    record {
      writer = c.requires.writer;
      ring = (refl, refl);
      some = (frame, below, top);
      part_way =
          λ other others is.
          reserving_first v.shape other others v.part is
          (reserving_top v.part.frames frame other below others top reserves is);
      payloads = same_stack v.frames.stack v.frames.stack refl;
    }

pub step-requires : goal.step-requires
unfolding IsWriter
step-requires c = record { writer = c.loop-last.invariant.writer }

pub returns-in-Some-clause-reserves : goal.returns-in-Some-clause-reserves
returns-in-Some-clause-reserves c = λ frame below top.
    let h = c.loop-last.invariant in
    let old : WriterValue = c.loop-last.self in
    let new : WriterValue = c.step.new.self in
    let shape : Shape = c.args.self.now.shape in
    let (same, other) = c.unless_going.ensures.other c.in-Some.last c.in-Some.is in
    subst (λ (x : Answer). Reserves shape frame.kind below c.args.self.now.part x new.part) (sym same)
    (reserving_ends shape frame.kind below c.args.self.now.part old.part new.part c.step.result
    (h.part_way frame below top)
    (call_in shape old new c.step.result h.ring.0 c.step.ensures.makes) other)

pub returns-in-Some-clause-ring : goal.returns-in-Some-clause-ring
returns-in-Some-clause-ring c =
    same_writer c.args.self.now c.loop-last.self c.step.new.self c.step.result c.loop-last.invariant.ring
    c.step.ensures.makes

pub turn_over-requires-clause-top : goal.turn_over-requires-clause-top
turn_over-requires-clause-top c =
    let h = c.loop-last.invariant in
    let old : WriterValue = c.loop-last.self in
    let one : WriterValue = c.step.new.self in
    let shape : Shape = c.args.self.now.shape in
    let (frame, below, top) = h.some in
    let a : IsStillReserving shape frame.kind below c.args.self.now.part one.part =
    reserving_on shape frame.kind below c.args.self.now.part old.part one.part c.step.result
    (h.part_way frame below top)
    (call_in shape old one c.step.result h.ring.0 c.step.ensures.makes)
    (c.unless_going.ensures.going c.in_default.is) in
    (a.frame, below, a.top, a.reserves)

pub loop-last-smaller : goal.loop-last-smaller
loop-last-smaller c =
    let h = c.loop-last.invariant in
    let old : WriterValue = c.loop-last.self in
    let one : WriterValue = c.step.new.self in
    let new : WriterValue = c.turn_over.new.self in
    let shape : Shape = c.args.self.now.shape in
    let (frame, below, top) = h.some in
    let a : IsStillReserving shape frame.kind below c.args.self.now.part old.part = h.part_way frame below top in
    let less : rank_of one < rank_of old =
    c.step.ensures.nearer a.frame below a.top (reserving_unnumbered a.frame.kind a.frame.state a.reserves)
    (reserving_stands shape frame.kind below c.args.self.now.part old.part one.part c.step.result a
    (call_in shape old one c.step.result h.ring.0 c.step.ensures.makes)
    (c.unless_going.ensures.going c.in_default.is)) in
    let further = c.turn_over.ensures.nearer in omega arith

pub loop-last-preserved : goal.loop-last-preserved
unfolding IsWriter
loop-last-preserved c =
    let h = c.loop-last.invariant in
    let old : WriterValue = c.loop-last.self in
    let one : WriterValue = c.step.new.self in
    let new : WriterValue = c.turn_over.new.self in
    let shape : Shape = c.args.self.now.shape in
    let makes = c.step.ensures.makes in let turns = c.turn_over.ensures in
    let ring = same_writer c.args.self.now old one c.step.result h.ring makes in
    record {
      writer = turns.writer;
      ring = same_turned c.args.self.now one new ring turns;
      some = h.some;
      part_way = λ frame below top.
          part_way_turned shape frame.kind below c.args.self.now.part one new ring.0
          (reserving_on shape frame.kind below c.args.self.now.part old.part one.part c.step.result
          (h.part_way frame below top)
          (call_in shape old one c.step.result h.ring.0 makes) (c.unless_going.ensures.going c.in_default.is)) turns;
      payloads =
          kept_then c.args.self.now.frames.stack one.frames.stack new.frames.stack
          (kept_then c.args.self.now.frames.stack old.frames.stack one.frames.stack h.payloads
          c.step.ensures.slots.payloads) turns.payloads;
    }

pub returns-in-Some-clause-payloads : goal.returns-in-Some-clause-payloads
returns-in-Some-clause-payloads c =
    kept_then c.args.self.now.frames.stack c.loop-last.self.frames.stack c.step.new.self.frames.stack
    c.loop-last.invariant.payloads c.step.ensures.slots.payloads

pub returns-in-Some-clause-zeros : goal.returns-in-Some-clause-zeros
unfolding IsWriter
returns-in-Some-clause-zeros c = λ number slot e lacks at.
    let h = c.loop-last.invariant in
    let (frame, below, top) = h.some in
    let a = h.part_way frame below top in
    let (same, other) = c.unless_going.ensures.other c.in-Some.last c.in-Some.is in
    c.step.ensures.slots.zeros number slot (sym same ∙ e)
    (lacks_slot c.loop-last.self h.writer a.frame below a.top a.reserves) at
