-- What a step is, if the event is known.
use Rattle.std.proofs.Common.{◌≡◌, ℕ, List, [], ◌∷◌, length, ◌==◌, Some, refl, sym, ap, ◌∙◌, subst}
use Rattle.std.proofs.lemmas.Bool.{eqb-true}
use Rattle.trace_model.specs.Words.{slot_len}
use Rattle.trace_model.specs.Frames.{Purpose, for_record, for_close, Progress, reserved, number_of, Phase, Frame}
use Rattle.trace_model.specs.Frames.{no_frame}
use Rattle.trace_model.specs.Ring.{Core}
use Rattle.trace_model.specs.Events.{steps, ends, reads, wishes, Answer, refused, wished_for, Outcome}
use Rattle.trace_model.specs.WriterSteps.{after_leave, end_answer, end_frame, end_top}
use Rattle.trace_model.specs.ReaderSteps.{with_wish}
use Rattle.trace_model.specs.Steps.{frame_step_of, top_step_of, read_step_of, Step}
use Rattle.trace_model.proofs.steps.StepCases.{FrameStep, ReadStep}
use Rattle.trace_model.proofs.steps.StepSound.{Sound, by_only, frame_sound, read_sound}

-- the end of a frame that has reserved
pub record Ends (c : Core) (payload : List ℕ) (frame : Frame) (below : List Frame) (answer : Answer)
    (after : Core) : Type 0 where
  pub moment : ℕ
  pub len : ℕ
  pub kind_is : frame.kind ≡ for_record moment len
  pub slot_is : slot_len (length payload) ≡ slot_len len
  pub answer_is : answer ≡ end_answer below
  pub after_is : after ≡ after_leave c frame below (Some payload)

ends_sound : (c : Core) (payload : List ℕ) (frame : Frame) (below : List Frame) (number : ℕ) (kind : Purpose)
    → frame.kind ≡ kind → Sound (Ends c payload frame below) (end_frame c payload frame below kind (Some number))
ends_sound c payload frame below number (for_record moment len) is =
    by_only (Ends c payload frame below) (slot_len (length payload) == slot_len len) _
    (λ e.
    record {
      moment = moment;
      len = len;
      kind_is = is;
      slot_is = eqb-true (slot_len (length payload)) (slot_len len) e;
      answer_is = refl;
      after_is = refl;
    })
ends_sound c payload frame below number for_close is = tt

made : (P : Answer → Core → Type 0) (o : Outcome) (answer : Answer) (after : Core) → o ≡ Some (answer, after)
    → Sound P o → P answer after
made P o answer after is s = subst (Sound P) is s

module _ {n size : ℕ} {c : Core} {answer : Answer} {after : Core} where
  -- the frame on top makes the step of its phase
  pub top_step : (frame : Frame) (below : List Frame) (phase : Phase) → c.frames ≡ frame ∷ below → frame.phase ≡ phase
      → Step n size c steps answer after → FrameStep n size c frame below phase answer after
  top_step frame below phase top at s =
      made (FrameStep n size c frame below phase) (frame_step_of n size c frame below phase) answer after
      (sym (ap (frame_step_of n size c frame below) at) ∙ sym (ap (top_step_of n size c) top) ∙ s.is)
      (frame_sound n size c frame below phase)

  -- no frame makes one
  pub no_top_step : c.frames ≡ [] → Step n size c steps answer after → (answer ≡ refused no_frame) × (after ≡ c)
  no_top_step none s =
      made (λ a d. (a ≡ refused no_frame) × (d ≡ c)) (top_step_of n size c []) answer after
      (sym (ap (top_step_of n size c) none) ∙ s.is) (refl, refl)

  -- the frame on top, which has reserved, ends
  pub top_ends : (payload : List ℕ) (frame : Frame) (below : List Frame) (number : ℕ) → c.frames ≡ frame ∷ below
      → frame.state ≡ reserved number → Step n size c (ends payload) answer after
      → Ends c payload frame below answer after
  top_ends payload frame below number top at s =
      made (Ends c payload frame below) (end_frame c payload frame below frame.kind (Some number)) answer after
      (sym (ap (λ (state : Progress). end_frame c payload frame below frame.kind (number_of state)) at)
      ∙ sym (ap (end_top c payload) top) ∙ s.is)
      (ends_sound c payload frame below number frame.kind refl)

  -- the reader makes the step of its phase
  pub reader_step : Step n size c reads answer after → ReadStep n c c.reader.phase answer after
  reader_step s =
      made (ReadStep n c c.reader.phase) (read_step_of n c c.reader.phase) answer after s.is
      (read_sound n c c.reader.phase)

  -- or wishes
  pub reader_wishes : Step n size c wishes answer after → (answer ≡ wished_for c.reader.seen) × (after ≡ with_wish c)
  reader_wishes s =
      made (λ a d. (a ≡ wished_for c.reader.seen) × (d ≡ with_wish c)) (Some (wished_for c.reader.seen, with_wish c))
      answer after s.is (refl, refl)
