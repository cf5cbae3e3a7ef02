-- A frame that leaves, and one that goes on waiting.
use Rattle.std.proofs.Common.{◌≡◌, ◌≢◌, ℕ, ◌<◌, ◌≤◌, Bool, true, List, [], ◌∷◌, ◌++◌, Some, None, IfSome, refl, sym, ap}
use Rattle.std.proofs.Common.{◌∙◌, subst, arith}
use Rattle.std.proofs.lemmas.Option.{none-some}
use Rattle.trace_model.specs.History.{HistoryEvent, leave, wished, Reservation, PushedFrame, records_after_leave}
use Rattle.trace_model.specs.History.{writer_after, reserved_records, MayLeave, MayWish}
use Rattle.trace_model.specs.Packing.{opens_of, is_wished}
use Rattle.trace_model.specs.Fitting.{NeedsFill}
use Rattle.trace_model.specs.Frames.{Purpose, for_record, for_close, waiting, left, number_of, pushed_frame}
use Rattle.trace_model.specs.Frames.{pushed_onto, pushed_of}
use Rattle.trace_model.specs.Frames as frames_model
use Rattle.trace_model.proofs.histories.Allowed.{IsHistory-push}
use Rattle.trace_model.proofs.histories.NextEvent.{left_stack, wished_stack}
use Rattle.trace_model.proofs.histories.NextRecords.{records_snoc, records_left}
use Rattle.trace_model.proofs.packing.FillCuts.{opens_of-leave, opens_of-wished}
use Rattle.trace_model.proofs.packing.PackedHistories.{fit_more, is_wished-leave, is_wished-wished}
use Rattle.page_image.specs.Contents.{Contents}
use Rattle.nested_writer.specs.declared.frame.Purpose.TheVariants.{Record, Close}
use Rattle.nested_writer.specs.declared.frame.Progress.{Progress}
use Rattle.nested_writer.specs.declared.frame.Progress.TheVariants.{Waiting, Through, Reserved, Left}
use Rattle.nested_writer.specs.declared.frame.Frame.{Frame}
use Rattle.nested_writer.specs.Stack.{Stack, opened, kind_of, state_of, model_frames}
use Rattle.nested_writer.specs.Calls.{with_progress, frames_after_leave, after_leave, end_with, HasLeft, IsAtBottom}
use Rattle.nested_writer.specs.IsStack.{StandsAt, AreBefore, MayBePushed, FramesStand, IsStackOf, IsStack}
use Rattle.nested_writer.proofs.Pushing.{same_of, of_frames}
use Rattle.nested_writer.proofs.Reserving.{end_is, tail_some}

-- ---- a frame leaves

-- those that haven't left are the ones below
pub pushed_after_leave : (top : Frame) (below : List Frame)
    → pushed_of (model_frames (frames_after_leave top below)) ≡ pushed_of (model_frames below)
pushed_after_leave top [] = refl
pushed_after_leave top (next ∷ below) = refl

pub frames_left : (size done : ℕ) (older : List Contents) (tail : Contents) (cuts : List ℕ) (records : List Reservation)
    (found : Bool) (top : Frame) (below : List Frame) → MayBePushed size (kind_of top.purpose)
    → FramesStand size done older tail cuts records found below
    → FramesStand size done older tail cuts records found (frames_after_leave top below)
frames_left size done older tail cuts records found top [] may st =
    (may, (tt, (λ e. absurd (none-some _ e))), tt, (λ e. refl), tt)
frames_left size done older tail cuts records found top (next ∷ below) may st = st

pub of_left : (start : ℕ) (cuts : List ℕ) (records : List Reservation) (found : Bool) (s : Stack) (top : Frame)
    (below : List Frame) → MayBePushed s.size (kind_of top.purpose)
    → FramesStand s.size s.done s.older s.tail cuts records found below → IsStackOf start cuts records found s
    → IsStackOf start cuts records found (after_leave s top below)
of_left start cuts records found s top below may st k =
    of_frames found (frames_after_leave top below)
    (frames_left s.size s.done s.older s.tail cuts records found top below may st) k

may_leave : (kind : Purpose) (stack : List PushedFrame) → MayLeave (pushed_frame kind waiting ∷ stack) None
may_leave (for_record moment len) stack = refl
may_leave for_close stack = refl

same_records : (kind : Purpose) (records : List Reservation)
    → records_after_leave (pushed_frame kind waiting) None records ≡ records
same_records (for_record moment len) records = refl
same_records for_close records = refl

-- a frame without a record leaves
pub left_none : (start : ℕ) (h : List HistoryEvent) (s : Stack) (top : Frame) (below : List Frame)
    → s.frames ≡ top ∷ below → state_of top.progress ≡ waiting → IsStack start h s
    → IsStack start (h ++ leave None ∷ []) (after_leave s top below)
left_none start h s top below top_is waits k =
    let rest : List PushedFrame = pushed_of (model_frames below) in
    let frames =
    subst (FramesStand s.size s.done s.older s.tail (opens_of h) (reserved_records h) (is_wished h)) top_is
    k.holds.frames_are in
    let stack : (writer_after h).stack ≡ pushed_frame (kind_of top.purpose) waiting ∷ rest =
    k.stack_is ∙ ap (λ (fs : List Frame). pushed_of (model_frames fs)) top_is
    ∙ ap (λ (st : frames_model.Progress). pushed_onto (kind_of top.purpose) st rest) waits in
    record {
      keeps =
          IsHistory-push h (leave None) k.keeps
          (subst (λ (st : List PushedFrame). MayLeave st None) (sym stack) (may_leave (kind_of top.purpose) rest));
      stack_is =
          left_stack h (pushed_frame (kind_of top.purpose) waiting) rest None stack
          ∙ sym (pushed_after_leave top below);
      fit = fit_more s.size h (leave None) k.fit tt;
      holds =
          same_of start (opens_of h) (opens_of (h ++ leave None ∷ [])) (reserved_records h)
          (reserved_records (h ++ leave None ∷ [])) (is_wished h) (is_wished (h ++ leave None ∷ [])) _
          (opens_of-leave h None)
          (records_left h (pushed_frame (kind_of top.purpose) waiting) rest None stack
          ∙ same_records (kind_of top.purpose) (reserved_records h)) (is_wished-leave h None)
          (of_left start (opens_of h) (reserved_records h) (is_wished h) s top below frames.0 frames.4 k.holds);
    }

-- ---- a frame goes on

-- one without a record stays so
of_progress : (start : ℕ) (cuts : List ℕ) (records : List Reservation) (found : Bool) (s : Stack) (top : Frame)
    (below : List Frame) (progress : Progress) → s.frames ≡ top ∷ below → state_of progress ≡ waiting
    → StandsAt s.size s.done s.older s.tail cuts records found (kind_of top.purpose) progress
    → IsStackOf start cuts records found s
    → IsStackOf start cuts records found (with_progress s top below progress)
of_progress start cuts records found s top below progress top_is waits st k =
    let frames = subst (FramesStand s.size s.done s.older s.tail cuts records found) top_is k.frames_are in
    of_frames found (record top { progress = progress } ∷ below) (
      frames.0,
      st,
      subst (λ (state : frames_model.Progress). IfSome (number_of state) (λ number. AreBefore number below)) (sym waits)
          tt,
      (λ e. absurd (waits_not_left (sym waits ∙ e))),
      frames.4,
    ) k
  where
    waits_not_left : waiting ≡ left → ⊥
    waits_not_left e = cc

is_progress : (start : ℕ) (h : List HistoryEvent) (s : Stack) (top : Frame) (below : List Frame) (progress : Progress)
    → s.frames ≡ top ∷ below → state_of top.progress ≡ waiting → state_of progress ≡ waiting
    → StandsAt s.size s.done s.older s.tail (opens_of h) (reserved_records h) (is_wished h) (kind_of top.purpose)
    progress
    → IsStack start h s
    → IsStack start h (with_progress s top below progress)
is_progress start h s top below progress top_is waits goes st k = record {
  keeps = k.keeps;
  stack_is =
      k.stack_is ∙ ap (λ (fs : List Frame). pushed_of (model_frames fs)) top_is
      ∙ ap
      (λ (state : frames_model.Progress).
      pushed_onto (kind_of top.purpose) state (pushed_of (model_frames below))) (waits ∙ sym goes);
  fit = k.fit;
  holds = of_progress start (opens_of h) (reserved_records h) (is_wished h) s top below progress top_is goes st k.holds;
}

-- what a frame needs that wants a page
needs_record : (start : ℕ) (h : List HistoryEvent) (s : Stack) (moment len : ℕ) → s.size < end_with s moment len
    → IsStack start h s
    → NeedsFill s.size (opens_of h) (reserved_records h) (is_wished h) (for_record moment len) waiting
needs_record start h s moment len past k fits =
    let e =
    end_is start (opens_of h) (reserved_records h) (is_wished h) s k.holds moment len in
    absurd (omega arith)

-- it noted that it needs a page
pub noted_record : (start : ℕ) (h : List HistoryEvent) (s : Stack) (top : Frame) (below : List Frame) (moment len : ℕ)
    → s.frames ≡ top ∷ below → top.purpose ≡ Record moment len → state_of top.progress ≡ waiting
    → s.size < end_with s moment len
    → IsStack start h s
    → IsStack start h (with_progress s top below (Waiting (Some (opened s))))
noted_record start h s top below moment len top_is purpose waits past k =
    is_progress start h s top below (Waiting (Some (opened s))) top_is waits refl (
      omega arith,
      λ e.
          subst (λ (kind : Purpose). NeedsFill s.size (opens_of h) (reserved_records h) (is_wished h) kind waiting)
          (sym (ap kind_of purpose)) (needs_record start h s moment len past k),
    ) k

pub noted_close : (start : ℕ) (h : List HistoryEvent) (s : Stack) (top : Frame) (below : List Frame)
    → s.frames ≡ top ∷ below → top.purpose ≡ Close → state_of top.progress ≡ waiting → s.tail.bytes ≢ []
    → IsStack start h s
    → IsStack start h (with_progress s top below (Waiting (Some (opened s))))
noted_close start h s top below top_is purpose waits some k =
    is_progress start h s top below (Waiting (Some (opened s))) top_is waits refl (
      omega arith,
      λ e.
          subst (λ (kind : Purpose). NeedsFill s.size (opens_of h) (reserved_records h) (is_wished h) kind waiting)
          (sym (ap kind_of purpose))
          (tail_some start (opens_of h) (reserved_records h) (is_wished h) s k.holds some),
    ) k

-- a close frame has nothing to close
pub gone_through : (start : ℕ) (h : List HistoryEvent) (s : Stack) (top : Frame) (below : List Frame) (noted : ℕ)
    → s.frames ≡ top ∷ below → top.purpose ≡ Close → state_of top.progress ≡ waiting → noted ≤ opened s
    → IsStack start h s
    → IsStack start h (with_progress s top below (Through noted))
gone_through start h s top below noted top_is purpose waits le k =
    is_progress start h s top below (Through noted) top_is waits refl (ap kind_of purpose, le) k

-- ---- the bottom frame, which has left

pub left_is : (progress : Progress) → HasLeft progress → state_of progress ≡ left
left_is (Waiting noted) gone = absurd gone
left_is (Through noted) gone = absurd gone
left_is (Reserved slot) gone = absurd gone
left_is (Left noted) gone = refl

left_empty : (start : ℕ) (h : List HistoryEvent) (s : Stack) (bottom : Frame) → s.frames ≡ bottom ∷ []
    → state_of bottom.progress ≡ left → IsStack start h s → (writer_after h).stack ≡ []
left_empty start h s bottom top_is gone k =
    k.stack_is ∙ ap (λ (fs : List Frame). pushed_of (model_frames fs)) top_is
    ∙ ap (λ (state : frames_model.Progress). pushed_onto (kind_of bottom.purpose) state []) gone

-- it is asked to close the tail, which holds a record
pub asked : (start : ℕ) (h : List HistoryEvent) (s : Stack) (bottom : Frame) → s.frames ≡ bottom ∷ []
    → state_of bottom.progress ≡ left → s.tail.bytes ≢ [] → IsStack start h s
    → IsStack start (h ++ wished ∷ []) (with_progress s bottom [] (Left (Some (opened s))))
asked start h s bottom top_is gone some k =
    let empty = left_empty start h s bottom top_is gone k in
    let o = k.holds in
    let frames =
    subst (FramesStand s.size s.done s.older s.tail (opens_of h) (reserved_records h) (is_wished h)) top_is
    o.frames_are in
    record {
      keeps = IsHistory-push h wished k.keeps (subst MayWish (sym empty) tt);
      stack_is = wished_stack h [] empty;
      fit = fit_more s.size h wished k.fit tt;
      holds =
          same_of start (opens_of h) (opens_of (h ++ wished ∷ [])) (reserved_records h)
          (reserved_records (h ++ wished ∷ [])) true (is_wished (h ++ wished ∷ [])) _
          (opens_of-wished h) (records_snoc h wished) (is_wished-wished h)
          (of_frames true (record bottom { progress = Left (Some (opened s)) } ∷ []) (
            frames.0,
            (omega arith, (λ e. (tail_some start (opens_of h) (reserved_records h) (is_wished h) s o some, refl))),
            tt,
            (λ e. refl),
            tt,
          ) o);
    }

-- what a bottom frame that asks leaves of the stack, by the number as it is worked out
pub asked_at : (start : ℕ) (h : List HistoryEvent) (s : Stack) (bottom : Frame) (below : List Frame) (noted : ℕ)
    → noted ≡ opened s → s.frames ≡ bottom ∷ below → IsAtBottom (bottom ∷ below) → s.tail.bytes ≢ [] → IsStack start h s
    → IsStack start (h ++ wished ∷ []) (record s { frames = record bottom { progress = Left (Some noted) } ∷ below })
asked_at start h s bottom [] noted is top_is gone some k =
    rw is (asked start h s bottom top_is (left_is bottom.progress gone) some k)
asked_at start h s bottom (next ∷ below) noted is top_is gone some k = absurd gone
