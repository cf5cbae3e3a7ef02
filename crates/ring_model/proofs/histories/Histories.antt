-- The frames as the history's stack, and the fills that were passed.
use Rattle.std.proofs.Common.{◌≡◌, ℕ, zero, suc, ◌<◌, ◌≤◌, ◌⊎◌, List, [], ◌∷◌, ◌++◌, Some, None, refl, ap, ◌∙◌, inl}
use Rattle.std.proofs.Common.{inr, ⊎_elim, arith}
use Rattle.trace_model.specs.History.{PushedFrame, MayOpen, MayLeave}
use Rattle.trace_model.specs.Frames.{Purpose, for_record, for_close, Progress, waiting, reserved, left, Frame}
use Rattle.trace_model.specs.Frames.{pushed_frame, pushed_onto, pushed_frames}
use Rattle.trace_model.specs.Ring.{TakenFill, Core}
use Rattle.trace_model.specs.Steps.{frames_after_leave}
use Rattle.ring_model.specs.KeptLinks.{spot, passed_spot}
use Rattle.ring_model.specs.KeptHistory.{Passing, TakenIn, WhyPassed}
use Rattle.ring_model.proofs.links.FramePhases.{none_some}

-- ---- the frames, shown as the history's stack

-- a frame that has left is not on it
pub pushed_waiting : (frame : Frame) (below : List PushedFrame) → frame.state ≡ waiting
    → pushed_onto frame.kind frame.state below ≡ pushed_frame frame.kind waiting ∷ below
pushed_waiting frame below e = ap (λ (s : Progress). pushed_onto frame.kind s below) e

pub pushed_reserved : (frame : Frame) (below : List PushedFrame) (number : ℕ) → frame.state ≡ reserved number
    → pushed_onto frame.kind frame.state below ≡ pushed_frame frame.kind (reserved number) ∷ below
pushed_reserved frame below number e = ap (λ (s : Progress). pushed_onto frame.kind s below) e

pub pushed_left : (frame : Frame) (below : List PushedFrame) → frame.state ≡ left
    → pushed_onto frame.kind frame.state below ≡ below
pushed_left frame below e = ap (λ (s : Progress). pushed_onto frame.kind s below) e

-- a frame that has no record may begin a fill, and leave with no payload
pub may_open : (kind : Purpose) (below : List PushedFrame) → MayOpen (pushed_frame kind waiting ∷ below)
may_open (for_record moment len) below = refl
may_open for_close below = tt

pub may_leave : (kind : Purpose) (below : List PushedFrame) → MayLeave (pushed_frame kind waiting ∷ below) None
may_leave (for_record moment len) below = refl
may_leave for_close below = refl

pub stack_left : (c : Core) (frame : Frame) (below : List Frame)
    → pushed_frames (frames_after_leave c frame below) ≡ pushed_frames below
stack_left c frame [] = refl
stack_left c frame (next ∷ below) = refl

-- ---- fills that were passed

pub taken_more : (taken : List TakenFill) (t : TakenFill) (f : ℕ) → TakenIn taken f → TakenIn (taken ++ t ∷ []) f
taken_more [] t f (k, u, at, is) = absurd (none_some at)
taken_more (x ∷ taken) t f (zero, u, at, is) = (zero, u, at, is)
taken_more (x ∷ taken) t f (suc k, u, at, is) = let (k', u', at', is') = taken_more taken t f (k, u, at, is) in
    (suc k', u', at', is')

pub taken_last : (taken : List TakenFill) (t : TakenFill) → TakenIn (taken ++ t ∷ []) t.fill
taken_last [] t = (0, t, refl, refl)
taken_last (x ∷ taken) t = let (k, u, at, is) = taken_last taken t in (suc k, u, at, is)

-- why a fill is passed stays so
pub why_stays : (n : ℕ) (taken taken' : List TakenFill) (opened opened' : ℕ) (frames frames' : List Frame) (f : ℕ)
    → (TakenIn taken f → TakenIn taken' f) → opened ≤ opened'
    → (Passing frames opened → (opened < opened') ⊎ ((opened ≡ opened') × Passing frames' opened'))
    → WhyPassed n taken opened frames f
    → WhyPassed n taken' opened' frames' f
why_stays n taken taken' opened opened' frames frames' f takes le passes (inl t) = inl (takes t)
why_stays n taken taken' opened opened' frames frames' f takes le passes (inr (inl more)) = inr (inl (omega arith))
why_stays n taken taken' opened opened' frames frames' f takes le passes (inr (inr (sum, p))) =
    ⊎_elim (λ more. inr (inl (omega arith))) (λ (e, q). inr (inr (sum ∙ e, q))) (passes p)

-- the top frame's part of it, if it goes on or leaves
pub passing_on : (frame : Frame) (below frames : List Frame) (f : ℕ)
    → ((page : ℕ) → passed_spot frame.phase ≡ Some (spot f page) → Passing frames f)
    → (Passing below f → Passing frames f) → Passing (frame ∷ below) f → Passing frames f
passing_on frame below frames f top rest (inl (page, at)) = top page at
passing_on frame below frames f top rest (inr p) = rest p

pub passing_left : (c : Core) (frame : Frame) (below : List Frame) (f : ℕ) → Passing below f
    → Passing (frames_after_leave c frame below) f
passing_left c frame [] f p = absurd p
passing_left c frame (next ∷ below) f p = p
