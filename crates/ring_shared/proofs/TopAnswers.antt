-- The frame on top, by its phase or its state, and what its step answers.
use Rattle.std.proofs.Common.{◌≡◌, ◌≢◌, ℕ, List, [], ◌∷◌, length, sym, ap, ◌∙◌, subst, inl, inr, arith}
use Rattle.trace_model.specs.Frames.{Purpose, for_record, for_close, Progress, waiting, reserved, left}
use Rattle.trace_model.specs.Frames.{Phase as ModelPhase, idle, releasing, Frame, no_frame}
use Rattle.trace_model.specs.Ring.{Core}
use Rattle.trace_model.specs.Steps as model
use Rattle.trace_model.proofs.steps.StepCases as cases
use Rattle.trace_model.specs.Steps.{Step}
use Rattle.trace_model.proofs.steps.StepCases.{ReleaseFillStep, releases, releases_last}
use Rattle.trace_model.proofs.steps.EventSteps.{no_top_step}
use Rattle.ring_model.specs.FrameOutcomes.{IsLeaving}
use Rattle.ring_model.specs.KeptStack.{MayBeIn}
use Rattle.ring_model.proofs.partition.RingsKept.{reached_kept}
use Rattle.ring_model.proofs.frames.StackSteps.{top_agrees, wishing_left}
use Rattle.ring_model.proofs.frames.TopSteps.{top_stepped}
use Rattle.nested_writer.specs.declared.frame.Frame as stack
use Rattle.nested_writer.specs.Calls.{top_of}
use Rattle.ring_frames.specs.declared.answer.Answer.{Answer}
use Rattle.ring_frames.specs.declared.answer.Answer.TheVariants.{Going}
use Rattle.ring_frames.specs.declared.phase.Phase.{Phase}
use Rattle.ring_frames.specs.declared.phase.Phase.TheVariants.{Wishing}
use Rattle.ring_frames.specs.AreFrames.{frames_in_phases}
use Rattle.ring_frames.specs.Value.{phase_of}
use Rattle.ring_steps.specs.declared.rule.Shape.{Shape}
use Rattle.ring_steps.specs.Views.{Writing}
use Rattle.ring_shared.specs.declared.writer.finish.Target.TheVariants as target
use Rattle.ring_shared.specs.Value.{WriterValue}
use Rattle.ring_shared.specs.Calls.{AreWriterFields, IsCall}
use Rattle.ring_shared.specs.Finishing.{IsTarget}
use Rattle.ring_shared.proofs.Targets.{IsOnTop, frames_of}
use Rattle.ring_shared.proofs.Depths.{depth_is}
use Rattle.ring_frames.proofs.Reported.{IsRefusal, is_going, is_refusal, is_number}
use Rattle.ring_shared.proofs.FinishParts.{HasNumber, ReportsTop}
use Rattle.ring_shared.proofs.Standing.{kept_now, top_in}

-- ---- by its phase

has_left : (kind : Purpose) → IsLeaving kind left
has_left (for_record moment len) = tt
has_left for_close = tt

release_answers : (c : Core) (frame : Frame) (below : List Frame) (answer : model.Answer) (after : Core)
    → ReleaseFillStep c frame below answer after → answer ≡ model.going
release_answers c frame below answer after (releases alone more a is) = a
release_answers c frame below answer after (releases_last alone last a is) = a

module _ (v : WriterValue) (w : AreWriterFields v) where
  -- the stack has a frame if the writer's part has
  pub some_stand : (frame : Frame) (below : List Frame) → v.part.frames ≡ frame ∷ below → v.frames.stack.frames ≢ []
  some_stand frame below top none =
      let deep = depth_is v w in let one = ap (length {A = Frame}) top in let zero = ap length none in omega arith

  -- one that looks for the reader's wish has left
  pub wishing_on_top : v.frames.stack.frames ≢ [] → v.frames.phase ≡ Wishing → IsOnTop v.part.frames IsLeaving
  wishing_on_top some at =
      let t = top_in v w w.core w.part_is some in
      let kept = kept_now v w in
      let agree = top_agrees w.core t.frame t.below t.is_top kept.stack in
      record {
        frame = t.frame;
        below = t.below;
        top = ap (λ (p : Writing). p.frames) (sym w.part_is) ∙ t.is_top;
        is =
            subst (IsLeaving t.frame.kind)
            (sym (wishing_left t.frame.kind t.frame.state t.frame.phase (t.phase_is ∙ ap phase_of at) agree.0))
            (has_left t.frame.kind);
      }

  -- one that closes a fill goes on
  pub release_goes : (result : Answer) (after : Writing) → v.frames.stack.frames ≢ []
      → phase_of v.frames.phase ≡ releasing → IsCall v.shape v.part model.steps result after → result ≡ Going
  release_goes result after some at call =
      let t = top_in v w call.core call.before_is some in
      is_going v.shape.size result call.answer call.reports
      (release_answers call.core t.frame t.below call.answer call.next
      (top_stepped v.shape.pages v.shape.size call.core t.frame t.below releasing call.answer call.next t.is_top
      (t.phase_is ∙ at) call.step))

-- ---- by its state

reserved_rests : (kind : Purpose) (state : Progress) (phase : ModelPhase) (number : ℕ) → state ≡ reserved number
    → MayBeIn kind state phase → phase ≡ idle
reserved_rests kind waiting phase number is may = absurd (cc)
reserved_rests kind (reserved other) phase number is may = may.1
reserved_rests kind left phase number is may = absurd (cc)

module _ (shape : Shape) (before : Writing) (result : Answer) (after : Writing)
    (call : IsCall shape before model.steps result after) where
  -- one that has reserved answers its number again
  pub reserved_answers : (frame : Frame) (below : List Frame) (number : ℕ) → before.frames ≡ frame ∷ below
      → frame.state ≡ reserved number → HasNumber below result after.frames
  reserved_answers frame below number top is =
      let at : call.core.frames ≡ frame ∷ below = ap (λ (p : Writing). p.frames) call.before_is ∙ top in
      let kept = reached_kept shape.pages shape.size shape.start call.core call.reached in
      let agree = top_agrees call.core frame below at kept.stack in
      let (answer_is, same) =
      subst (λ (s : Progress). cases.IdleStep shape.pages shape.size call.core frame below s call.answer call.next)
      is
      (top_stepped shape.pages shape.size call.core frame below idle call.answer call.next at
      (reserved_rests frame.kind frame.state frame.phase number is agree.0) call.step) in
      let (reported, reports, reported_is) = is_number shape.size result call.answer number call.reports answer_is in
      record {
        next = frame;
        number = reported;
        reported = reports;
        top = ap (λ (p : Writing). p.frames) (sym call.after_is) ∙ (ap (λ (c : Core). c.frames) same ∙ at);
        state_is = is ∙ ap reserved (sym reported_is);
      }

  -- and if there is no frame, the step is refused
  pub none_refused : before.frames ≡ [] → IsRefusal result
  none_refused none =
      is_refusal shape.size result call.answer no_frame call.reports
      (no_top_step (ap (λ (p : Writing). p.frames) call.before_is ∙ none) call.step).0

-- one that makes a single step answers its record's number, or is refused
step_in : (shape : Shape) (before : Writing) (result : Answer) (after : Writing) (frames : List stack.Frame)
    (phase : Phase) (below : List Phase) → before.frames ≡ frames_in_phases frames (phase ∷ below)
    → IsTarget (top_of frames) target.Step → IsCall shape before model.steps result after
    → ReportsTop result after.frames
step_in shape before result after [] phase below same is call = inr (none_refused shape before result after call same)
step_in shape before result after (f ∷ frames) phase below same (number, is) call =
    inl (_, reserved_answers shape before result after call _ _ number same is)

pub step_reports : (v : WriterValue) (w : AreWriterFields v) (result : Answer) (after : Writing)
    → IsTarget (top_of v.frames.stack.frames) target.Step → IsCall v.shape v.part model.steps result after
    → ReportsTop result after.frames
step_reports v w result after is call =
    step_in v.shape v.part result after v.frames.stack.frames v.frames.phase v.frames.below (frames_of v w) is call
