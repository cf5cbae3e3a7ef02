-- How the parts of what is known of a ring follow from a step's answer and the ring after it.
use Rattle.std.specs.Prelude.{ℕ, ◌+◌, Bool, true, false, if◌then◌else◌, ◌≤◌, ◌&&◌, ◌||◌, ◌==◌, Option, Some, None}
use Rattle.trace_model.specs.declared.limits.TheConstants.{MAX_SIZE}
use Rattle.trace_model.specs.Ring.{Core}
use Rattle.trace_model.specs.Steps.{Event, Step}
use Rattle.trace_model.specs.Steps as steps
use Rattle.ring_model.specs.Reached.{IsReached}
use Rattle.ring_core.specs.Value.{CoreValue}
use Rattle.ring_core.specs.IsCore.{IsCore}
use Rattle.ring_frames.specs.declared.answer.Answer.{Answer}
use Rattle.ring_frames.specs.declared.answer.Answer.TheVariants.{Reserved, Taken}
use Rattle.ring_frames.specs.Answers.{IsAnswerOf}
use Rattle.step_model.specs.StepCounts.{owns_from, moment_of, has_left}
use Rattle.step_text.specs.declared.seen.FrameSeen.{FrameSeen}
use Rattle.step_text.specs.declared.seen.Parts.{Parts}
use Rattle.step_text.specs.Seen.{frame_in, ArePartsOf}

abbrev pub frames_claim : (depth now : ℕ) → FrameSeen → FrameSeen → Bool
frames_claim depth now old new = depth == now && owns_from (frame_in old).phase (frame_in new).phase

abbrev pub one_claims : (depth now : ℕ) → FrameSeen → Option FrameSeen → Bool
one_claims depth now old None = false
one_claims depth now old (Some new) = frames_claim depth now old new

abbrev pub some_claims : (depth now : ℕ) → Option FrameSeen → Option FrameSeen → Bool
some_claims depth now None top = false
some_claims depth now (Some old) top = one_claims depth now old top

-- the frame on top has claimed the head
abbrev pub top_claims_in : Parts → (depth : ℕ) → Option FrameSeen → Bool
top_claims_in p depth top = some_claims p.depth depth p.top top

abbrev pub top_moment_in : Option FrameSeen → ℕ
top_moment_in None = 0
top_moment_in (Some f) = moment_of (frame_in f).kind

abbrev pub all_have_left_in : (depth : ℕ) → Option FrameSeen → Bool
all_have_left_in depth None = true
all_have_left_in depth (Some f) = depth == 1 && has_left (frame_in f).state

-- the answer is that the head is taken
abbrev pub takes_in : Answer → Bool
takes_in (Taken page missed) = true
takes_in _ = false

-- the head after a step with this answer: it is taken or claimed, or it stays
abbrev pub head_in : Parts → Answer → (depth : ℕ) → Option FrameSeen → ℕ
head_in p answer depth top =
    if takes_in answer || top_claims_in p depth top then p.counts.head + 1 else p.counts.head

-- the answer gives the next number, which none of `count` records has
abbrev pub gives_in : (count : ℕ) → Answer → Bool
gives_in count (Reserved number) = number.0 == count
gives_in count _ = false

-- the parts are those of a ring that steps reach, whose pages aren't too large
pub record IsCounted (p : Parts) (c : Core) : Type 0 where
  pub n : ℕ
  pub size : ℕ
  pub start : ℕ
  pub large : size ≤ MAX_SIZE
  pub reached : IsReached n size start c
  pub parts : ArePartsOf p c

-- after a step from a state that these are the parts of
abbrev pub Follows : Parts → Answer → CoreValue → Parts → Type 0
Follows old answer ring new = (n size start : ℕ) (before after : Core) (event : Event) (reported : steps.Answer)
    → IsReached n size start before
    → ArePartsOf old before
    → Step n size before event reported after
    → IsAnswerOf size answer reported
    → IsCore n size start ring after
    → ArePartsOf new after
