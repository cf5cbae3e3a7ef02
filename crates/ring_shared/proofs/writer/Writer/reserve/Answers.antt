use Rattle.std.proofs.Common.{◌∙◌, refl, sym, ap, subst}
use Rattle.trace_model.specs.Steps.{steps}
use Rattle.ring_model.specs.Seats.{PhaseIsPrivate}
use Rattle.nested_writer.specs.Stack.{opened}
use Rattle.ring_frames.specs.declared.phase.Phase.{Phase}
use Rattle.ring_frames.specs.Value.{phase_of}
use Rattle.ring_frames.specs.Answers.{ZerosSlot}
use Rattle.ring_shared.specs.Value.{WriterValue}
use Rattle.ring_shared.specs.Calls.{IsWriter}
use Rattle.ring_shared.proofs.Privately.{step_leads, seen_call}
use Rattle.trace_model.specs.Frames.{idle}
use Rattle.ring_shared.proofs.Nearing.{stays_near}
use Rattle.ring_shared.proofs.writer.Writer.reserve.Goals as goal

pub note-requires : goal.note-requires
unfolding IsWriter
note-requires c = let idle = ap (λ (x : WriterValue). x.frames.phase) c.self.view_is ∙ c.requires.phase in
    record {
      due = step_leads _ (subst IsWriter (sym c.self.view_is) c.requires.framed.writer)
          (subst (λ (p : Phase). PhaseIsPrivate (phase_of p) (opened c.self.inside.frames.stack)) (sym idle) tt);
    }

pub returns-clause-makes : goal.returns-clause-makes
unfolding IsWriter
returns-clause-makes c =
    seen_call _ _ (λ _. steps) c.reserve.result _ c.self.view_is c.requires.framed.writer c.note.ensures.same.shape
    c.note.ensures.same.table c.note.ensures.noted refl c.reserve.ensures.step

pub returns-clause-nearer : goal.returns-clause-nearer
unfolding IsWriter
returns-clause-nearer c =
    stays_near c.self.view_is c.requires.framed.writer c.requires.framed.top (idle) (ap phase_of c.requires.phase)
    (returns-clause-makes c) c.note.ensures.same.knows tt

pub returns-clause-zeros : goal.returns-clause-zeros
returns-clause-zeros c =
    subst (λ (x : WriterValue). ZerosSlot x.frames.stack c.reserve.result c.reserve.new.self.stack) c.self.view_is
    c.reserve.ensures.zeros
