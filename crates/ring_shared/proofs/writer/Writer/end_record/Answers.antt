use Rattle.std.proofs.Common.{rules, ◌≡◌, false, true, ℕ, List, [], sym, ◌∙◌, subst}
use Rattle.ring_frames.specs.Answers.{top_bytes}
use Rattle.ring_steps.specs.declared.rule.Shape.{Shape}
use Rattle.ring_shared.specs.Value.{WriterValue}
use Rattle.ring_shared.specs.Finishing.{Finishes}
use Rattle.ring_shared.proofs.Targets.{finishes_leaving}
use Rattle.ring_shared.proofs.WholeWrites.{reserved_top, ends_above, alone_leaves, ends_alone, left_above, alone_left}
use Rattle.ring_shared.proofs.Covered.{ends_covered, covered_then}
use Rattle.ring_shared.specs.Calls.{IsWriter}
use Rattle.ring_shared.proofs.writer.Writer.end_record.Goals as goal

pub leave_on-refusal-requires : goal.leave_on-refusal-requires
unfolding IsWriter
leave_on-refusal-requires c = record {
  writer = search rules;
  top = let x : WriterValue = c.args.self.now in
      let one : WriterValue = c.end.new.self in
      let (frame, top, leaves) =
      alone_leaves x.shape x.part one.part (top_bytes x.frames.stack x.frames.stack.frames) c.end.result
      c.end.ensures.makes.call (reserved_top x c.requires.writer c.args.slot c.requires.slot)
      (c.stands_alone.ensures.0 c.if-stands_alone.true) in
      (frame, [], top, leaves);
}

pub returns-then-stands_alone-clause-ends : goal.returns-then-stands_alone-clause-ends
unfolding IsWriter
returns-then-stands_alone-clause-ends c =
    let x : WriterValue = c.args.self.now in
    let one : WriterValue = c.end.new.self in
    let two : WriterValue = c.leave_on-refusal.new.self in
    let payload : List ℕ = top_bytes x.frames.stack x.frames.stack.frames in
    let reserved = reserved_top x c.requires.writer c.args.slot c.requires.slot in
    let full = c.stands_alone.ensures.0 c.if-stands_alone.true in
    let (frame, top, leaving) =
    alone_leaves x.shape x.part one.part payload c.end.result c.end.ensures.makes.call reserved full in
    let (last, refusal, gone, leaves) = c.leave_on-refusal.ensures.leaves in
    let finished : Finishes x.shape one.part last two.part =
    subst (λ (s : Shape). Finishes s one.part last two.part) c.end.ensures.makes.shape_is
    (finishes_leaving one.shape one.part last two.part
    record { frame = frame; below = []; top = top; is = leaving } leaves) in
    let (how, end, goes) =
    ends_alone x.shape x.part one.part payload c.end.result c.end.ensures.makes.call reserved last two.part full
    finished in
    let others =
    alone_left x.shape x.part one.part payload c.end.result c.end.ensures.makes.call reserved last two.part full
    finished in
    record { ended = one.part; how = how; end = end; goes = goes; others = others }

pub returns-else-stands_alone-clause-ends : goal.returns-else-stands_alone-clause-ends
unfolding IsWriter
returns-else-stands_alone-clause-ends c =
    let x : WriterValue = c.args.self.now in let one : WriterValue = c.end.new.self in
    let payload : List ℕ = top_bytes x.frames.stack x.frames.stack.frames in
    let (how, end, goes) =
    ends_above x.shape x.part one.part payload c.end.result c.end.ensures.makes.call
    (reserved_top x c.requires.writer c.args.slot c.requires.slot)
    (λ e. let truth : false ≡ true = sym c.if-stands_alone.false ∙ c.stands_alone.ensures.1 e in cc) in
    let others =
    left_above x.shape x.part one.part payload c.end.result c.end.ensures.makes.call
    (reserved_top x c.requires.writer c.args.slot c.requires.slot)
    (λ e. let truth : false ≡ true = sym c.if-stands_alone.false ∙ c.stands_alone.ensures.1 e in cc) in
    record { ended = one.part; how = how; end = end; goes = goes; others = others }

pub returns-then-stands_alone-clause-covered : goal.returns-then-stands_alone-clause-covered
returns-then-stands_alone-clause-covered c =
    let x : WriterValue = c.args.self.now in
    let one : WriterValue = c.end.new.self in
    let two : WriterValue = c.leave_on-refusal.new.self in
    covered_then x.frames.stack one.frames.stack two.frames.stack
    (ends_covered x.frames.stack one.frames.stack c.end.ensures.payloads) c.leave_on-refusal.ensures.payloads

pub returns-else-stands_alone-clause-covered : goal.returns-else-stands_alone-clause-covered
returns-else-stands_alone-clause-covered c =
    ends_covered c.args.self.now.frames.stack c.end.new.self.frames.stack c.end.ensures.payloads
