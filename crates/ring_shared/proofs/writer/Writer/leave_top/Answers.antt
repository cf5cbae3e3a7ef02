use Rattle.std.specs.Prelude.{◌<◌, Option}
use Rattle.std.proofs.Common.{rules, ◌≡◌, length, refl, sym, ◌∙◌, subst, arith}
use Rattle.nested_writer.specs.declared.fault.WriteFault.{WriteFault}
use Rattle.ring_frames.specs.declared.answer.Answer.{Answer}
use Rattle.ring_steps.specs.declared.rule.Shape.{Shape}
use Rattle.ring_steps.specs.Views.{Writing}
use Rattle.ring_shared.specs.Value.{WriterValue}
use Rattle.ring_shared.specs.Finishing.{Leaves, IsGoneOrRefused}
use Rattle.ring_shared.proofs.Depths.{depth_is, leaving_top}
use Rattle.ring_shared.proofs.Finishes.{IsStillLeaving, leaving_unnumbered, leaving_first, leaving_on, leaving_stands}
use Rattle.ring_shared.proofs.Finishes.{leaving_ends, leaving_reported, call_in, same_writer}
use Rattle.ring_frames.proofs.Payloads.{same_stack, kept_then}
use Rattle.ring_shared.specs.Calls.{IsWriter}
use Rattle.ring_shared.proofs.writer.Writer.leave_top.Goals as goal

pub loop-answer-init : goal.loop-answer-init
unfolding IsWriter
loop-answer-init c =
    let (frame, below, top, leaves) = c.requires.top in
    let v : WriterValue = c.args.self.now in
    record {
      writer = c.requires.writer;
      ring = (refl, refl);
      depth = c.depth-depth.ensures.stack ∙ depth_is v c.requires.writer;
      some = (frame, below, top);
      part_way =
          λ other others is.
          leaving_first v.shape other others v.part is
          (leaving_top v.part.frames frame other below others top leaves is);
      payloads = same_stack v.frames.stack v.frames.stack refl;
    }

pub step-answer-requires : goal.step-answer-requires
unfolding IsWriter
step-answer-requires c = record { writer = c.loop-answer.invariant.writer }

pub returns-then-depth : goal.returns-then-depth
unfolding IsWriter
returns-then-depth c = record {
  leaves = λ frame below top.
      let h = c.loop-answer.invariant in
      let old : WriterValue = c.loop-answer.self in
      let new : WriterValue = c.step-answer.new.self in
      let shape : Shape = c.args.self.now.shape in
      let makes = c.step-answer.ensures.makes in
      let less = c.if-depth.true in
      let now_deep = c.depth.ensures.stack ∙ depth_is new makes.writer in
      let deep = h.depth in
      subst (λ (x : Answer). Leaves shape below c.args.self.now.part x new.part) (sym c.refusal_or_last.ensures)
      (leaving_ends shape below c.args.self.now.part c.loop-answer.met old.part new.part c.step-answer.result
      (h.part_way frame below top)
      (call_in shape old new c.step-answer.result h.ring.0 makes) (omega arith));
  gone = let h = c.loop-answer.invariant in
      let old : WriterValue = c.loop-answer.self in
      let new : WriterValue = c.step-answer.new.self in
      let shape : Shape = c.args.self.now.shape in
      let makes = c.step-answer.ensures.makes in
      let less = c.if-depth.true in
      let now_deep = c.depth.ensures.stack ∙ depth_is new makes.writer in
      let deep = h.depth in
      let (frame, below, top) = h.some in
      subst IsGoneOrRefused (sym c.refusal_or_last.ensures)
      (leaving_reported shape below c.args.self.now.part c.loop-answer.met old.part new.part c.step-answer.result
      (h.part_way frame below top)
      (call_in shape old new c.step-answer.result h.ring.0 makes) (omega arith));
  payloads =
      kept_then c.args.self.now.frames.stack c.loop-answer.self.frames.stack c.step-answer.new.self.frames.stack
      c.loop-answer.invariant.payloads c.step-answer.ensures.slots.payloads;
  ring =
      same_writer c.args.self.now c.loop-answer.self c.step-answer.new.self c.step-answer.result
      c.loop-answer.invariant.ring c.step-answer.ensures.makes;
  writer = search rules;
}

pub loop-answer-smaller : goal.loop-answer-smaller
unfolding IsWriter
loop-answer-smaller c =
    let h = c.loop-answer.invariant in
    let old : WriterValue = c.loop-answer.self in
    let new : WriterValue = c.step-answer.new.self in
    let shape : Shape = c.args.self.now.shape in
    let makes = c.step-answer.ensures.makes in
    let (frame, below, top) = h.some in
    let a : IsStillLeaving shape below c.args.self.now.part c.loop-answer.met old.part = h.part_way frame below top in
    let more = c.if-depth.false in
    let now_deep = c.depth.ensures.stack ∙ depth_is new makes.writer in
    let deep = h.depth in
    c.step-answer.ensures.nearer a.frame below a.top (leaving_unnumbered a.frame.kind a.frame.state a.leaves)
    (leaving_stands shape below c.args.self.now.part c.loop-answer.met old.part new.part c.step-answer.result a
    (call_in shape old new c.step-answer.result h.ring.0 makes) (λ less. omega arith))

pub loop-answer-preserved : goal.loop-answer-preserved
unfolding IsWriter
loop-answer-preserved c =
    let h = c.loop-answer.invariant in
    let old : WriterValue = c.loop-answer.self in
    let new : WriterValue = c.step-answer.new.self in
    let shape : Shape = c.args.self.now.shape in
    let first : Writing = c.args.self.now.part in
    let makes = c.step-answer.ensures.makes in
    let more = c.if-depth.false in
    let now_deep = c.depth.ensures.stack ∙ depth_is new makes.writer in
    let deep = h.depth in
    let call = call_in shape old new c.step-answer.result h.ring.0 makes in
    let stands : length new.part.frames < length old.part.frames → ⊥ = λ less. omega arith in
    let (frame, below, top) = h.some in
    let same : length new.part.frames ≡ length old.part.frames =
    leaving_stands shape below first c.loop-answer.met old.part new.part c.step-answer.result
    (h.part_way frame below top) call stands in
    record {
      writer = makes.writer;
      ring = same_writer c.args.self.now old new c.step-answer.result h.ring makes;
      depth = deep ∙ sym same;
      some = h.some;
      part_way = λ other others is.
          subst (λ (m : Option WriteFault). IsStillLeaving shape others first m new.part) (sym c.met_first-met.ensures)
          (leaving_on shape others first c.loop-answer.met old.part new.part c.step-answer.result
          (h.part_way other others is) call stands);
      payloads =
          kept_then c.args.self.now.frames.stack old.frames.stack new.frames.stack h.payloads
          c.step-answer.ensures.slots.payloads;
    }
