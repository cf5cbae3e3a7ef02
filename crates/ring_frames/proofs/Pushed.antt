-- A frame that is pushed.
use Rattle.std.proofs.Common.{◌≡◌, ℕ, suc, ◌<◌, ◌≤◌, List, [], ◌∷◌, ◌++◌, length, None, refl, sym, ap, ◌∙◌, subst}
use Rattle.std.proofs.Common.{arith}
use Rattle.std.proofs.lemmas.Bool.{cond-true, lt-ltb}
use Rattle.trace_model.specs.declared.limits.TheConstants.{MAX_FRAMES}
use Rattle.trace_model.specs.History.{HistoryEvent}
use Rattle.trace_model.specs.Frames.{Frame as model, waiting, idle}
use Rattle.trace_model.specs.Ring.{Core}
use Rattle.trace_model.specs.Steps.{with_history_event, with_frame as with_model_frame}
use Rattle.trace_model.proofs.steps.StepCases.{HasRoom}
use Rattle.ring_model.proofs.links.FramePhases.{none_some}
use Rattle.nested_writer.specs.declared.frame.Purpose.{Purpose}
use Rattle.nested_writer.specs.declared.frame.Purpose.TheVariants.{Record, Close}
use Rattle.nested_writer.specs.declared.frame.Progress.TheVariants.{Waiting}
use Rattle.nested_writer.specs.declared.frame.Frame.{Frame}
use Rattle.nested_writer.specs.Stack.{kind_of}
use Rattle.nested_writer.specs.Calls.{with_frame}
use Rattle.nested_writer.specs.IsStack.{IsStack}
use Rattle.ring_frames.specs.declared.phase.Phase.{Phase}
use Rattle.ring_frames.specs.declared.phase.Phase.TheVariants.{Idle}
use Rattle.ring_frames.specs.Phases.{below_after_push, with_pushed_phase}
use Rattle.ring_frames.specs.Value.{FramesValue}
use Rattle.ring_frames.specs.AreFrames.{frames_in_phases, AreBelow, NotedAlike, AreNotedAlike, AreFrames}
use Rattle.ring_frames.proofs.Reshown.{reshown}

-- there are as many frames with phases as the stack has
pub as_many : (frames : List Frame) (phase : Phase) (below : List Phase) → AreBelow frames below
    → length (frames_in_phases frames (phase ∷ below)) ≡ length frames
as_many [] phase below are = refl
as_many (f ∷ frames) phase below are = ap suc (more frames below are)
  where
    more : (frames : List Frame) (phases : List Phase) → length phases ≡ length frames
        → length (frames_in_phases frames phases) ≡ length frames
    more [] phases same = refl
    more (f ∷ frames) [] same = absurd (omega (arith, same))
    more (f ∷ frames) (p ∷ phases) same = ap suc (more frames phases (omega (arith, same)))

-- if a frame is below the new one
kept_below : (n : ℕ) (phase : Phase) (below : List Phase) → below_after_push (suc (suc n)) phase below ≡ phase ∷ below
kept_below n phase below = cond-true _ _ _ (lt-ltb 1 (suc (suc n)) (omega arith))

-- the phases below the new frame are those of the frames below it
frames_below : (frames : List Frame) (phase : Phase) (below : List Phase)
    → frames_in_phases frames (phase ∷ below)
    ≡ frames_in_phases frames (below_after_push (suc (length frames)) phase below)
frames_below [] phase below = refl
frames_below (f ∷ frames) phase below =
    ap (frames_in_phases (f ∷ frames)) (sym (kept_below (length frames) phase below))

phases_below : (frames : List Frame) (phase : Phase) (below : List Phase) → AreBelow frames below
    → length (below_after_push (suc (length frames)) phase below) ≡ length frames
phases_below [] phase below are = ap length are
phases_below (f ∷ frames) phase below are = ap length (kept_below (length frames) phase below) ∙ ap suc are

noted_below : (frames : List Frame) (phase : Phase) (below : List Phase) → AreNotedAlike frames (phase ∷ below)
    → AreNotedAlike frames (below_after_push (suc (length frames)) phase below)
noted_below [] phase below noted = tt
noted_below (f ∷ frames) phase below noted =
    subst (AreNotedAlike (f ∷ frames)) (sym (kept_below (length frames) phase below)) noted

-- a frame that has noted nothing, neither here nor there
noted_nothing : (purpose : Purpose) → NotedAlike purpose (Waiting None) Idle
noted_nothing (Record moment len) = λ o is. absurd (none_some is)
noted_nothing Close = refl

-- a new frame that is pushed for this
abbrev pub new_frame : Purpose → Frame
new_frame purpose = record { purpose = purpose; progress = Waiting None }

pub pushed_shown : (n size start : ℕ) (v : FramesValue) (c : Core) (purpose : Purpose) (event : HistoryEvent)
    → AreFrames n size start v c → IsStack start (c.history ++ event ∷ []) (with_frame v.stack (new_frame purpose))
    → AreFrames n size start (with_pushed_phase (record v { stack = with_frame v.stack (new_frame purpose) }))
    (with_history_event (with_model_frame c (kind_of purpose)) event)
pushed_shown n size start v c purpose event k is =
    let top : model = record { kind = kind_of purpose; state = waiting; phase = idle } in
    let frames : List Frame = v.stack.frames in
    reshown n size start v c (with_frame v.stack (new_frame purpose)) Idle
    (below_after_push (suc (length frames)) v.phase v.below) (top ∷ c.frames) (c.history ++ event ∷ []) c.held k
    record {
      pages_is = refl;
      size_is = refl;
      done_is = refl;
      opened_is = refl;
      stack_is = is;
      frames_are = ap (λ (fs : List model). top ∷ fs) (k.frames_are ∙ frames_below frames v.phase v.below);
      below_are = phases_below frames v.phase v.below k.below_are;
      noted = (noted_nothing purpose, noted_below frames v.phase v.below k.noted);
    }

-- if fewer frames are on the stack than may be
pub has_room : (n size start : ℕ) (v : FramesValue) (c : Core) → AreFrames n size start v c
    → length v.stack.frames < MAX_FRAMES → HasRoom c
has_room n size start v c k few =
    let same = as_many v.stack.frames v.phase v.below k.below_are in
    subst (λ (m : ℕ). m < MAX_FRAMES) (sym (ap length k.frames_are ∙ same)) few

pub has_no_room : (n size start : ℕ) (v : FramesValue) (c : Core) → AreFrames n size start v c
    → MAX_FRAMES ≤ length v.stack.frames → MAX_FRAMES ≤ length c.frames
has_no_room n size start v c k many =
    let same = as_many v.stack.frames v.phase v.below k.below_are in
    subst (λ (m : ℕ). MAX_FRAMES ≤ m) (sym (ap length k.frames_are ∙ same)) many
