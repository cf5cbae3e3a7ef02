-- A close frame that leaves.
use Rattle.std.proofs.Common.{◌≡◌, ◌≢◌, ℕ, List, [], ◌∷◌, ◌++◌, Option, Some, None, refl, sym, ap, ◌∙◌, subst}
use Rattle.std.proofs.Common.{append-nil}
use Rattle.std.specs.Prelude.{Result, Ok, Err}
use Rattle.trace_model.specs.History.{HistoryEvent, leave}
use Rattle.trace_model.specs.Frames.{Frame as ModelFrame}
use Rattle.trace_model.specs.Ring.{Core}
use Rattle.trace_model.specs.Steps as model
use Rattle.record_words.specs.declared.put.Place.{Place}
use Rattle.nested_writer.specs.declared.fault.WriteFault.{WriteFault}
use Rattle.nested_writer.specs.declared.fault.WriteFault.TheVariants.{TooDeep, TooLong, LateMoment, Crowded, Worn}
use Rattle.nested_writer.specs.declared.fault.WriteFault.TheVariants.{NoFrame, NotReserved}
use Rattle.nested_writer.specs.declared.stack.allot.Allot.{Allot}
use Rattle.nested_writer.specs.declared.stack.allot.Allot.TheVariants.{Fits, NeedsPage}
use Rattle.nested_writer.specs.declared.frame.Purpose.TheVariants.{Close}
use Rattle.nested_writer.specs.declared.frame.Progress.{Progress}
use Rattle.nested_writer.specs.declared.frame.Progress.TheVariants.{Waiting, Through}
use Rattle.nested_writer.specs.declared.frame.Frame.{Frame}
use Rattle.nested_writer.specs.Stack.{Stack, opened}
use Rattle.nested_writer.specs.Calls.{with_progress, frames_after_leave, after_leave}
use Rattle.nested_writer.specs.Allotted.{HasEvents, first_try, IsAllotted}
use Rattle.nested_writer.specs.Answered.{IsAllotAnswer}
use Rattle.nested_writer.specs.Ends.{MayEndTop, IsEnd}
use Rattle.nested_writer.specs.IsStack.{IsStack}
use Rattle.ring_frames.specs.Phases.{left_answer}
use Rattle.ring_frames.specs.Value.{FramesValue}
use Rattle.ring_frames.specs.AreFrames.{AreFrames}
use Rattle.ring_frames.specs.Answers.{IsAnswerOf}
use Rattle.ring_frames.specs.Steps.{IsCloseTop}
use Rattle.ring_frames.proofs.Left.{tops_are, left_value, left_without, leave_reported}

-- the frame with this progress
abbrev pub at_progress : Frame → Progress → Frame
at_progress top progress = record top { progress = progress }

-- ---- what allot answers to a close frame

-- it is through
abbrev pub IsThrough : Stack → Frame → List Frame → Option ℕ → Stack → Type 0
IsThrough s top below noted after =
    (after ≡ with_progress s top below (Through (first_try s (Waiting noted)))) × HasEvents s [] after

-- if a fill was begun since it noted, it fits
pub close_fits : (s : Stack) (history : List HistoryEvent) (noted : ℕ) (below : List Frame)
    (result : Result Allot WriteFault) (after : Stack) → noted ≢ opened s
    → IsAllotAnswer s history (record { purpose = Close; progress = Waiting (Some noted) } ∷ below) result
    → IsAllotted s (record { purpose = Close; progress = Waiting (Some noted) } ∷ below) result after
    → ((place : Place) × (result ≡ Ok (Fits place)))
    × IsThrough s (record { purpose = Close; progress = Waiting (Some noted) }) below (Some noted) after
close_fits s history noted below (Ok (Fits place)) after ne answered allotted =
    ((place, refl), (allotted.1, allotted.2))
close_fits s history noted below (Ok NeedsPage) after ne answered allotted = absurd (ne answered.0.1)
close_fits s history noted below (Err Crowded) after ne answered allotted = absurd (ne answered.0.1)
close_fits s history noted below (Err Worn) after ne answered allotted = absurd (ne answered.0.1)
close_fits s history noted below (Err NotReserved) after ne answered allotted = absurd answered
close_fits s history noted below (Err NoFrame) after ne answered allotted = absurd answered
close_fits s history noted below (Err TooDeep) after ne answered allotted = absurd answered
close_fits s history noted below (Err TooLong) after ne answered allotted = absurd answered
close_fits s history noted below (Err LateMoment) after ne answered allotted = absurd answered

-- so does that on top of the ring's stack
pub top_fits : (n size start : ℕ) (v : FramesValue) (c : Core) (noted : ℕ) (result : Result Allot WriteFault)
    (after : Stack) → AreFrames n size start v c → (top : IsCloseTop v noted) → noted ≢ opened v.stack
    → ((start : ℕ) (history : List HistoryEvent) → IsStack start history v.stack
    → IsAllotAnswer v.stack history v.stack.frames result)
    → IsAllotted v.stack v.stack.frames result after
    → ((place : Place) × (result ≡ Ok (Fits place)))
    × IsThrough v.stack (record { purpose = Close; progress = Waiting (Some noted) }) top.0 (Some noted) after
top_fits n size start v c noted result after k (below, is) ne answered allotted =
    close_fits v.stack c.history noted below result after ne
    (subst (λ (fs : List Frame). IsAllotAnswer v.stack c.history fs result) is
    (answered start c.history k.stack_is))
    (subst (λ (fs : List Frame). IsAllotted v.stack fs result after) is allotted)

-- ---- it may be ended

pub through_may_end : (s : Stack) (top : Frame) (below : List Frame) (noted : ℕ) (after : Stack)
    → after ≡ with_progress s top below (Through noted) → MayEndTop after.frames
through_may_end s top below noted after is = subst (λ (x : Stack). MayEndTop x.frames) (sym is) tt

pub has_no_events : (start : ℕ) (history : List HistoryEvent) (s after : Stack) → HasEvents s [] after
    → IsStack start history s → IsStack start history after
has_no_events start history s after has_events k =
    subst (λ (h : List HistoryEvent). IsStack start h after) (append-nil history) (has_events start history k)

-- ---- and then it leaves

same_left : (top : Frame) (progress : Progress) (below : List Frame)
    → frames_after_leave (at_progress top progress) below ≡ frames_after_leave top below
same_left top progress [] = refl
same_left top progress (next ∷ below) = refl

pub closed_shown : (n size start : ℕ) (v : FramesValue) (c : Core) (top : Frame) (frames : List Frame)
    (frame : ModelFrame) (below : List ModelFrame) (noted : Option ℕ) (between stack : Stack)
    → AreFrames n size start v c → v.stack.frames ≡ top ∷ frames → c.frames ≡ frame ∷ below
    → top.progress ≡ Waiting noted
    → IsThrough v.stack top frames noted between
    → IsEnd between between.frames stack
    → IsAnswerOf size (left_answer v.below) (model.leave_answer below)
    × AreFrames n size start (left_value v stack) (model.after_leave c frame below None)
closed_shown n size start v c top frames frame below noted between stack k stack_is model_is waits through ended =
    let (frame_is, below_is, same) = tops_are v c n size start top frames frame below k stack_is model_is in
    let tries : ℕ = first_try v.stack (Waiting noted) in
    let top' : Frame = at_progress top (Through tries) in
    let ended' : IsEnd between (top' ∷ frames) stack =
    subst (λ (fs : List Frame). IsEnd between fs stack) (ap (λ (s : Stack). s.frames) through.0) ended in
    let is : stack ≡ after_leave v.stack top frames =
    ended'.0 ∙ ap (λ (s : Stack). after_leave s top' frames) through.0
    ∙ ap (λ (fs : List Frame). let s : Stack = record v.stack { frames = fs } in s)
    (same_left top (Through tries) frames) in
    let kept : IsStack start (c.history ++ leave None ∷ []) stack =
    ended'.1 start c.history (has_no_events start c.history v.stack between through.1 k.stack_is) in (
      leave_reported size frames v.below below below_is same,
      left_without n size start v c top frames frame below stack k stack_is model_is is kept,
    )
