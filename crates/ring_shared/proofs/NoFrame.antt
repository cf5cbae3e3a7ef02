-- A step that is refused since there is no frame.
use Rattle.std.proofs.Common.{◌≡◌, List, [], ◌∷◌, refl, sym, ap, ◌∙◌, subst}
use Rattle.trace_model.specs.Frames.{no_frame, Frame as ModelFrame}
use Rattle.trace_model.specs.Steps as model
use Rattle.trace_model.proofs.steps.StepCases as cases
use Rattle.trace_model.proofs.steps.StepIs.{step_by}
use Rattle.ring_model.specs.Seats.{TopIsPrivate}
use Rattle.nested_writer.specs.declared.frame.Frame.{Frame}
use Rattle.nested_writer.specs.declared.fault.WriteFault.TheVariants.{NoFrame}
use Rattle.ring_frames.specs.declared.answer.Answer.TheVariants.{Refused}
use Rattle.ring_frames.specs.Value.{FramesValue}
use Rattle.ring_frames.specs.AreFrames.{frames_in_phases}
use Rattle.ring_frames.specs.Steps.{MakesPrivate}
use Rattle.ring_shared.specs.Value.{WriterValue}
use Rattle.ring_shared.specs.Calls.{AreWriterFields}
use Rattle.ring_shared.proofs.Targets.{frames_of}

-- it touches no word, and changes no frame
pub refuses_step : (v : FramesValue) → v.stack.frames ≡ [] → MakesPrivate v model.steps (Refused NoFrame) v
refuses_step v none n size start c reached are =
    let bare : c.frames ≡ [] =
    are.frames_are ∙ ap (λ (fs : List Frame). frames_in_phases fs (v.phase ∷ v.below)) none in
    record {
      answer = model.refused no_frame;
      after = c;
      step = step_by (cases.frame_lacks refl bare refl refl);
      private = subst (λ (fs : List ModelFrame). TopIsPrivate fs c.opened) (sym bare) tt;
      reports = refl;
      are = are;
    }

-- the writer's part has none either
pub none_in_part : (v : WriterValue) → AreWriterFields v → v.frames.stack.frames ≡ [] → v.part.frames ≡ []
none_in_part v w none =
    frames_of v w ∙ ap (λ (fs : List Frame). frames_in_phases fs (v.frames.phase ∷ v.frames.below)) none
