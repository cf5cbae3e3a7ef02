use Rattle.std.proofs.Common.{refl, sym, subst}
use Rattle.trace_model.specs.Steps.{steps}
use Rattle.ring_model.specs.Seats.{PhaseIsPrivate}
use Rattle.nested_writer.specs.Stack.{opened}
use Rattle.nested_writer.specs.PlainTop.{IsPlainTop}
use Rattle.ring_frames.specs.declared.phase.Phase.{Phase}
use Rattle.ring_frames.specs.declared.answer.Answer.TheVariants.{Reserved}
use Rattle.ring_frames.specs.Value.{phase_of}
use Rattle.ring_frames.specs.Answers.{ZerosSlot}
use Rattle.ring_frames.proofs.Plain.{plain_rests}
use Rattle.ring_shared.specs.Value.{WriterValue}
use Rattle.ring_shared.specs.Calls.{IsWriter}
use Rattle.ring_shared.specs.contracts.writer.Writer.{the_view}
use Rattle.ring_shared.proofs.Called.{writer_seen}
use Rattle.ring_shared.proofs.Privately.{step_leads, seen_call}
use Rattle.ring_shared.proofs.writer.Writer.reserve_plain.Goals as goal

pub note-requires : goal.note-requires
unfolding IsWriter
note-requires c =
    let v : WriterValue = the_view c.self.inside in
    let w : IsWriter v = writer_seen c.self.view_is c.requires.writer in
    let plain : IsPlainTop v.frames.stack c.args.pushed =
    subst (λ (x : WriterValue). IsPlainTop x.frames.stack c.args.pushed) (sym c.self.view_is) c.requires.plain in
    let idle =
    plain_rests v.shape.pages v.shape.size v.shape.start v.frames w.core c.args.pushed
    record { reached = w.reached; are = w.frames_are } plain in
    record {
      due =
          step_leads v w (subst (λ (p : Phase). PhaseIsPrivate (phase_of p) (opened v.frames.stack)) (sym idle) tt);
    }

pub returns-clause-makes : goal.returns-clause-makes
unfolding IsWriter
returns-clause-makes c =
    seen_call _ _ (λ _. steps) (Reserved c.reserve_plain.result) _ c.self.view_is c.requires.writer
    c.note.ensures.same.shape c.note.ensures.same.table c.note.ensures.noted refl c.reserve_plain.ensures.step

pub returns-clause-zeros : goal.returns-clause-zeros
returns-clause-zeros c =
    subst
    (λ (x : WriterValue). ZerosSlot x.frames.stack (Reserved c.reserve_plain.result) c.reserve_plain.new.self.stack)
    c.self.view_is c.reserve_plain.ensures.zeros
