use Rattle.std.specs.Prelude.{Option, Some, None}
use Rattle.std.proofs.Common.{rules, ◌≡◌, sym, ◌∙◌, subst}
use Rattle.nested_writer.specs.declared.frame.Frame as stack
use Rattle.nested_writer.specs.Calls.{top_of}
use Rattle.ring_frames.specs.declared.answer.Answer.{Answer}
use Rattle.ring_shared.specs.declared.writer.finish.Target.{Target}
use Rattle.ring_shared.specs.Value.{WriterValue}
use Rattle.ring_shared.specs.Finishing.{IsTarget, Finishes}
use Rattle.ring_shared.proofs.Targets.{reserving_on_top, leaving_on_top, finishes_reserving, finishes_leaving}
use Rattle.ring_shared.proofs.Targets.{finishes_step}
use Rattle.ring_shared.proofs.FinishParts.{gone_unrefused, reserving_reports, number_or_refused, finished_so}
use Rattle.ring_shared.proofs.TopAnswers.{step_reports}
use Rattle.ring_shared.proofs.WholeWrites.{met_refusal, not_refused}
use Rattle.ring_shared.specs.Calls.{IsWriter}
use Rattle.ring_shared.proofs.writer.Writer.finish_any.Goals as goal

-- the target is that of the stack's top
targets : (top : Option stack.Frame) (v now : WriterValue) (found to : Target) → top ≡ top_of v.frames.stack.frames
    → v ≡ now → IsTarget top found → found ≡ to → IsTarget (top_of now.frames.stack.frames) to
targets top v now found to at same is e =
    subst (λ (x : WriterValue). IsTarget (top_of x.frames.stack.frames) to) same
    (subst (λ (t : Option stack.Frame). IsTarget t to) at (subst (IsTarget top) e is))

pub reserve_top-requires-clause-top : goal.reserve_top-requires-clause-top
unfolding IsWriter
reserve_top-requires-clause-top c =
    let t =
    reserving_on_top c.args.self.now c.requires.writer
    (targets c.top.result _ c.args.self.now c.target_of.result _ c.top.ensures c.self.view_is
    c.target_of.ensures c.in-Record.is) in
    (t.frame, t.below, t.top, t.is)

pub leave_on-requires : goal.leave_on-requires
unfolding IsWriter
leave_on-requires c = record {
  writer = search rules;
  top =
      let t =
      leaving_on_top c.args.self.now c.requires.writer
      (targets c.top.result _ c.args.self.now c.target_of.result _ c.top.ensures c.self.view_is c.target_of.ensures
      c.in-End.is) in
      (t.frame, t.below, t.top, t.is);
}

pub brief-requires : goal.brief-requires
unfolding IsWriter
brief-requires c =
    let t =
    reserving_on_top c.args.self.now c.requires.writer
    (targets c.top.result _ c.args.self.now c.target_of.result _ c.top.ensures c.self.view_is
    c.target_of.ensures c.in-Record.is) in
    number_or_refused c.reserve_top.result c.reserve_top.new.self.part.frames
    (reserving_reports t.frame.kind t.below c.reserve_top.result c.reserve_top.new.self.part.frames
    (c.reserve_top.ensures.reserves t.frame t.below t.top).ends)

pub brief-requires-in-Step : goal.brief-requires-in-Step
unfolding IsWriter
brief-requires-in-Step c =
    let v : WriterValue = c.args.self.now in
    number_or_refused c.step.result c.step.new.self.part.frames
    (step_reports v c.requires.writer c.step.result c.step.new.self.part
    (targets c.top.result _ v c.target_of.result _ c.top.ensures c.self.view_is c.target_of.ensures c.in-Step.is)
    c.step.ensures.makes.call)

pub returns-in-Record-clause-finished : goal.returns-in-Record-clause-finished
unfolding IsWriter
returns-in-Record-clause-finished c =
    let v : WriterValue = c.args.self.now in let new : WriterValue = c.reserve_top.new.self in
    let t =
    reserving_on_top v c.requires.writer
    (targets c.top.result _ v c.target_of.result _ c.top.ensures c.self.view_is c.target_of.ensures
    c.in-Record.is) in
    finished_so v new c.reserve_top.ensures.writer c.reserve_top.result c.brief.result c.brief.ensures
    (reserving_reports t.frame.kind t.below c.reserve_top.result new.part.frames
    (c.reserve_top.ensures.reserves t.frame t.below t.top).ends)
    (finishes_reserving v.shape v.part c.reserve_top.result new.part t c.reserve_top.ensures.reserves)

pub returns-in-Some-clause-finished : goal.returns-in-Some-clause-finished
unfolding IsWriter
returns-in-Some-clause-finished c =
    let v : WriterValue = c.args.self.now in let new : WriterValue = c.leave_on.new.self in
    let (answer, reported, how, leaves) = c.leave_on.ensures.leaves in
    subst (λ (x : Answer). Finishes v.shape v.part x new.part)
    (met_refusal answer c.in-Some.fault (sym reported ∙ c.in-Some.is))
    (finishes_leaving v.shape v.part answer new.part
    (leaving_on_top v c.requires.writer
    (targets c.top.result _ v c.target_of.result _ c.top.ensures c.self.view_is c.target_of.ensures c.in-End.is))
    leaves)

pub returns-in-None-clause-finished : goal.returns-in-None-clause-finished
unfolding IsWriter
returns-in-None-clause-finished c =
    let v : WriterValue = c.args.self.now in let new : WriterValue = c.leave_on.new.self in
    let (answer, reported, how, leaves) = c.leave_on.ensures.leaves in
    subst (λ (x : Answer). Finishes v.shape v.part x new.part)
    (gone_unrefused answer how
    (not_refused answer (λ f e. let both : None ≡ Some f = sym c.in-None.is ∙ (reported ∙ e) in cc)))
    (finishes_leaving v.shape v.part answer new.part
    (leaving_on_top v c.requires.writer
    (targets c.top.result _ v c.target_of.result _ c.top.ensures c.self.view_is c.target_of.ensures c.in-End.is))
    leaves)

pub returns-in-Step-clause-finished : goal.returns-in-Step-clause-finished
unfolding IsWriter
returns-in-Step-clause-finished c =
    let v : WriterValue = c.args.self.now in let new : WriterValue = c.step.new.self in
    let target =
    targets c.top.result _ v c.target_of.result _ c.top.ensures c.self.view_is c.target_of.ensures c.in-Step.is in
    let makes = c.step.ensures.makes in
    finished_so v new makes.writer c.step.result c.brief-in-Step.result c.brief-in-Step.ensures
    (step_reports v c.requires.writer c.step.result new.part target makes.call)
    (finishes_step v c.requires.writer c.step.result new.part target makes.call)
