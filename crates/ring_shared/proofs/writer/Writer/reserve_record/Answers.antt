use Rattle.std.specs.Prelude.{◌<◌, ◌≤◌}
use Rattle.std.proofs.Common.{rules, ◌≡◌, ℕ, List, ◌∷◌, length, sym, ◌∙◌, subst, arith}
use Rattle.trace_model.specs.Frames.{for_record, Frame}
use Rattle.trace_model.specs.Steps as model
use Rattle.ring_model.specs.FrameOutcomes.{IsReserving}
use Rattle.nested_writer.specs.declared.fault.WriteFault.{WriteFault}
use Rattle.ring_frames.specs.declared.answer.Answer.{Answer}
use Rattle.ring_steps.specs.declared.rule.Shape.{Shape}
use Rattle.ring_shared.specs.Value.{WriterValue}
use Rattle.ring_shared.specs.Calls.{IsCall}
use Rattle.ring_shared.specs.Finishing.{Finishes, Reserves}
use Rattle.ring_shared.specs.WholeWrites.{IsRefusedWrite}
use Rattle.ring_shared.proofs.Depths.{depth_is}
use Rattle.ring_frames.proofs.Reported.{IsRefusal}
use Rattle.ring_shared.proofs.Targets.{IsOnTop, finishes_reserving, finishes_leaving}
use Rattle.ring_shared.proofs.WholeWrites.{met_refusal, not_refused, has_begun, has_record, is_reserved_by}
use Rattle.ring_shared.proofs.WholeWrites.{refused_gone, refused_stands, refused_left, top_slot_of}
use Rattle.ring_frames.proofs.Payloads.{kept_then}
use Rattle.ring_shared.proofs.Covered.{reserved_covers}
use Rattle.ring_shared.specs.Calls.{IsWriter}
use Rattle.ring_shared.proofs.writer.Writer.reserve_record.Goals as goal

-- the frame that was pushed has a record to reserve
begun_top : (x one : WriterValue) (moment len : ℕ) (begun : Answer)
    → IsCall x.shape x.part (model.pushes moment len) begun one.part → (IsRefusal begun → ⊥)
    → IsOnTop one.part.frames IsReserving
begun_top x one moment len begun push went =
    let b = (has_begun x.shape x.part one.part moment len begun push went).0 in
    record { frame = b.frame; below = x.part.frames; top = b.top; is = b.reserves }

-- so it is stepped as far as it gets
finished : (x one two : WriterValue) (moment len : ℕ) (begun result : Answer) → one.shape ≡ x.shape
    → IsCall x.shape x.part (model.pushes moment len) begun one.part → (IsRefusal begun → ⊥)
    → ((frame : Frame) (below : List Frame) → one.part.frames ≡ frame ∷ below
    → Reserves one.shape frame.kind below one.part result two.part) → Finishes x.shape one.part result two.part
finished x one two moment len begun result same push went reserves =
    subst (λ (s : Shape). Finishes s one.part result two.part) same
    (finishes_reserving one.shape one.part result two.part (begun_top x one moment len begun push went) reserves)

pub reserve_on-requires-clause-top : goal.reserve_on-requires-clause-top
unfolding IsWriter
reserve_on-requires-clause-top c =
    let t =
    begun_top c.args.self.now c.begin.new.self c.args.moment c.args.len c.begin.result c.begin.ensures.makes.call
    (not_refused c.begin.result (λ f is. c.in_default.not-Some f (c.met_first.ensures ∙ is))) in
    (t.frame, t.below, t.top, t.is)

pub leave_on-refusal-requires : goal.leave_on-refusal-requires
unfolding IsWriter
leave_on-refusal-requires c = record {
  writer = search rules;
  top = let x : WriterValue = c.args.self.now in
      let one : WriterValue = c.begin.new.self in
      let two : WriterValue = c.reserve_on.new.self in
      let (answer, met, reserves) = c.reserve_on.ensures.reserves in
      let why : WriteFault = c.in-Some-reserve_on.fault in
      let before_deep = c.depth-depth.ensures.stack ∙ depth_is x c.requires.writer in
      let now_deep = c.depth.ensures.stack ∙ depth_is two c.reserve_on.ensures.writer in
      let more = c.if-depth.true in
      let deep : length x.part.frames < length two.part.frames = omega arith in
      let went = not_refused c.begin.result (λ f is. c.in_default.not-Some f (c.met_first.ensures ∙ is)) in
      let (next, top, leaves) =
      refused_stands x.shape x.part one.part two.part c.args.moment c.args.len c.begin.result answer
      c.begin.ensures.makes.call went
      (finished x one two c.args.moment c.args.len c.begin.result answer c.begin.ensures.makes.shape_is
      c.begin.ensures.makes.call went reserves)
      why (met_refusal answer why (sym met ∙ c.in-Some-reserve_on.is)) deep in
      (next, x.part.frames, top, leaves);
}

pub returns-then-depth-clause-refused : goal.returns-then-depth-clause-refused
unfolding IsWriter
returns-then-depth-clause-refused c = λ fault e.
    let x : WriterValue = c.args.self.now in
    let one : WriterValue = c.begin.new.self in
    let two : WriterValue = c.reserve_on.new.self in
    let (answer, met, reserves) = c.reserve_on.ensures.reserves in
    let three : WriterValue = c.leave_on-refusal.new.self in
    let shape_is = c.begin.ensures.makes.shape_is in
    let why : WriteFault = c.in-Some-reserve_on.fault in
    let same : why ≡ fault = cc in
    let before_deep = c.depth-depth.ensures.stack ∙ depth_is x c.requires.writer in
    let now_deep = c.depth.ensures.stack ∙ depth_is two c.reserve_on.ensures.writer in
    let more = c.if-depth.true in
    let deep : length x.part.frames < length two.part.frames = omega arith in
    let went = not_refused c.begin.result (λ f is. c.in_default.not-Some f (c.met_first.ensures ∙ is)) in
    let so_far : Finishes x.shape one.part answer two.part =
    finished x one two c.args.moment c.args.len c.begin.result answer shape_is
    c.begin.ensures.makes.call went reserves in
    let refusal = met_refusal answer why (sym met ∙ c.in-Some-reserve_on.is) in
    let (next, top, leaving) =
    refused_stands x.shape x.part one.part two.part c.args.moment c.args.len c.begin.result answer
    c.begin.ensures.makes.call went so_far why refusal deep in
    let (last, refused, gone, leaves) = c.leave_on-refusal.ensures.leaves in
    let finishes : Finishes x.shape two.part last three.part =
    subst (λ (s : Shape). Finishes s two.part last three.part) (c.reserve_on.ensures.ring.0 ∙ shape_is)
    (finishes_leaving two.shape two.part last three.part
    record { frame = next; below = x.part.frames; top = top; is = leaving } leaves) in
    subst (λ (f : WriteFault). IsRefusedWrite x.shape x.part c.args.moment c.args.len f three.part) same
    (refused_left x.shape x.part one.part two.part c.args.moment c.args.len c.begin.result answer
    c.begin.ensures.makes.call went so_far why last three.part refusal deep finishes)

pub unreachable-requires : goal.unreachable-requires
unfolding IsWriter
unreachable-requires c =
    let x : WriterValue = c.args.self.now in
    let one : WriterValue = c.begin.new.self in
    let two : WriterValue = c.reserve_on.new.self in
    let (answer, met, reserves) = c.reserve_on.ensures.reserves in
    let (slot, is) = top_slot_of two c.reserve_on.ensures.writer (for_record c.args.moment c.args.len) x.part.frames
    (has_record x.shape x.part one.part two.part c.args.moment c.args.len c.begin.result answer
    c.begin.ensures.makes.call
    (not_refused c.begin.result (λ f is. c.in_default.not-Some f (c.met_first.ensures ∙ is)))
    (finished x one two c.args.moment c.args.len c.begin.result answer c.begin.ensures.makes.shape_is
    c.begin.ensures.makes.call
    (not_refused c.begin.result (λ f is. c.in_default.not-Some f (c.met_first.ensures ∙ is)))
    reserves)
    (not_refused answer (λ f is. c.in_default-reserve_on.not-Some f (met ∙ is)))) in
    let there = c.top_slot.ensures.found slot is in let err = c.in-Err.is in cc

pub returns-clause-reserved : goal.returns-clause-reserved
returns-clause-reserved c = λ slot e.
    let x : WriterValue = c.args.self.now in
    let one : WriterValue = c.begin.new.self in
    let two : WriterValue = c.reserve_on.new.self in
    let (answer, met, reserves) = c.reserve_on.ensures.reserves in
    is_reserved_by x.shape x.part one.part two.part c.args.moment c.args.len c.begin.result answer
    c.begin.ensures.makes.call
    (not_refused c.begin.result (λ f is. c.in_default.not-Some f (c.met_first.ensures ∙ is)))
    (finished x one two c.args.moment c.args.len c.begin.result answer c.begin.ensures.makes.shape_is
    c.begin.ensures.makes.call
    (not_refused c.begin.result (λ f is. c.in_default.not-Some f (c.met_first.ensures ∙ is)))
    reserves)
    (not_refused answer (λ f is. c.in_default-reserve_on.not-Some f (met ∙ is)))

pub returns-else-depth-clause-refused : goal.returns-else-depth-clause-refused
unfolding IsWriter
returns-else-depth-clause-refused c = λ fault e.
    let x : WriterValue = c.args.self.now in
    let one : WriterValue = c.begin.new.self in
    let two : WriterValue = c.reserve_on.new.self in
    let (answer, met, reserves) = c.reserve_on.ensures.reserves in
    let why : WriteFault = c.in-Some-reserve_on.fault in
    let same : why ≡ fault = cc in
    let before_deep = c.depth-depth.ensures.stack ∙ depth_is x c.requires.writer in
    let now_deep = c.depth.ensures.stack ∙ depth_is two c.reserve_on.ensures.writer in
    let flat = c.if-depth.false in
    let low : length two.part.frames ≤ length x.part.frames = omega arith in
    subst (λ (f : WriteFault). IsRefusedWrite x.shape x.part c.args.moment c.args.len f two.part) same
    (refused_gone x.shape x.part one.part two.part c.args.moment c.args.len c.begin.result answer
    c.begin.ensures.makes.call
    (not_refused c.begin.result (λ f is. c.in_default.not-Some f (c.met_first.ensures ∙ is)))
    (finished x one two c.args.moment c.args.len c.begin.result answer c.begin.ensures.makes.shape_is
    c.begin.ensures.makes.call
    (not_refused c.begin.result (λ f is. c.in_default.not-Some f (c.met_first.ensures ∙ is)))
    reserves)
    why (met_refusal answer why (sym met ∙ c.in-Some-reserve_on.is)) low)

-- ---- payloads

pub returns-then-depth-clause-payloads : goal.returns-then-depth-clause-payloads
returns-then-depth-clause-payloads c =
    let x : WriterValue = c.args.self.now in
    let one : WriterValue = c.begin.new.self in
    let two : WriterValue = c.reserve_on.new.self in
    let three : WriterValue = c.leave_on-refusal.new.self in
    kept_then x.frames.stack two.frames.stack three.frames.stack
    (kept_then x.frames.stack one.frames.stack two.frames.stack c.begin.ensures.payloads
    c.reserve_on.ensures.payloads) c.leave_on-refusal.ensures.payloads

pub returns-else-depth-clause-payloads : goal.returns-else-depth-clause-payloads
returns-else-depth-clause-payloads c =
    kept_then c.args.self.now.frames.stack c.begin.new.self.frames.stack c.reserve_on.new.self.frames.stack
    c.begin.ensures.payloads c.reserve_on.ensures.payloads

pub returns-clause-payloads : goal.returns-clause-payloads
returns-clause-payloads c =
    kept_then c.args.self.now.frames.stack c.begin.new.self.frames.stack c.reserve_on.new.self.frames.stack
    c.begin.ensures.payloads c.reserve_on.ensures.payloads

pub returns-clause-covers : goal.returns-clause-covers
unfolding IsWriter
returns-clause-covers c = λ slot e.
    let x : WriterValue = c.args.self.now in let two : WriterValue = c.reserve_on.new.self in
    reserved_covers x.shape x two c.args.moment c.args.len c.requires.writer c.reserve_on.ensures.writer
    (c.reserve_on.ensures.ring.0 ∙ c.begin.ensures.makes.shape_is) (returns-clause-reserved c slot e)
    (returns-clause-payloads c)
