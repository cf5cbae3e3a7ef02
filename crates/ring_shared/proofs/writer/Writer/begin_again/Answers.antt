use Rattle.std.proofs.Common.{refl, sym, subst, ◌∙◌}
use Rattle.trace_model.specs.Steps.{steps}
use Rattle.ring_model.specs.Seats.{PhaseIsPrivate}
use Rattle.nested_writer.specs.Stack.{opened}
use Rattle.ring_frames.specs.Value.{phase_of}
use Rattle.ring_frames.specs.Phases.{as_answer}
use Rattle.ring_shared.specs.Value.{WriterValue}
use Rattle.ring_shared.specs.Calls.{IsWriter}
use Rattle.ring_shared.proofs.Privately.{step_leads, seen_call}
use Rattle.ring_shared.proofs.Bounds.{opened_now}
use Rattle.ring_shared.proofs.Nearing.{stays_near, quiet_late}
use Rattle.ring_shared.proofs.writer.Writer.begin_again.Goals as goal

pub note-requires : goal.note-requires
unfolding IsWriter
note-requires c = record {
  due = step_leads _ (subst IsWriter (sym c.self.view_is) c.requires.framed.writer)
      (subst (λ (x : WriterValue). PhaseIsPrivate (phase_of x.frames.phase) (opened x.frames.stack))
      (sym c.self.view_is) c.requires.private);
}

pub returns-clause-makes : goal.returns-clause-makes
unfolding IsWriter
returns-clause-makes c =
    let own =
    subst (λ (x : WriterValue). PhaseIsPrivate (phase_of x.frames.phase) (opened x.frames.stack))
    (sym c.self.view_is) c.requires.private in
    let made = c.begin_again.ensures.late own in
    seen_call _ _ (λ _. steps) (as_answer c.begin_again.result) _ c.self.view_is c.requires.framed.writer
    c.note.ensures.same.shape c.note.ensures.same.table c.note.ensures.noted refl made

pub returns-clause-nearer : goal.returns-clause-nearer
unfolding IsWriter
returns-clause-nearer c =
    let x : WriterValue = c.args.self.now in
    let (noted, is, late) = c.requires.passed in
    stays_near c.self.view_is c.requires.framed.writer c.requires.framed.top (phase_of x.frames.phase) refl
    (returns-clause-makes c) c.note.ensures.same.knows
    (quiet_late x.part.opened (phase_of x.frames.phase) noted is
    (λ now. late (now ∙ sym (opened_now x c.requires.framed.writer))))
