-- What a teller learns of a step.
use Rattle.std.specs.Prelude.{◌≡◌, ℕ, List, [], ◌∷◌, ◌++◌, Option, Some, None}
use Rattle.trace_model.specs.Ring.{Core}
use Rattle.trace_model.specs.Steps as model
use Rattle.trace_model.specs.Steps.{pushes, pushes_close, reads, wishes, Step}
use Rattle.ring_model.specs.Reached.{IsReached}
use Rattle.world_model.specs.Lanes.{event_on_top}
use Rattle.ring_core.specs.Value.{CoreValue}
use Rattle.ring_core.specs.IsCore.{IsCore}
use Rattle.ring_frames.specs.declared.answer.Answer.{Answer}
use Rattle.ring_frames.specs.Answers.{IsAnswerOf}
use Rattle.step_model.specs.StepTexts.{step_text}
use Rattle.script_replay.specs.declared.asked.Asked.{Asked}
use Rattle.script_replay.specs.declared.asked.Asked.TheVariants.{Push, PushClose, Top, Read, Wish}
use Rattle.script_replay.specs.Known.{StepTextValue, Knows, KnowsOthers}

-- this is what the event asked of a ring in this state
abbrev pub IsAsked : Asked → Core → model.Event → Type 0
IsAsked Push c event = (moment len : ℕ) × (event ≡ pushes moment len)
IsAsked PushClose c event = event ≡ pushes_close
IsAsked (Top payload) c event = event ≡ event_on_top c.frames (payload.now ∷ [])
IsAsked Read c event = event ≡ reads
IsAsked Wish c event = event ≡ wishes

-- The event is a step of a ring from a state that steps reach to another one, in which the value is now; and the answer
-- means the model's.
pub record IsStepOf (n size start : ℕ) (before after : Core) (event : model.Event) (reported : model.Answer)
    (asked : Asked) (answer : Answer) (ring : CoreValue)
    : Type 0 where
  pub reached : IsReached n size start before
  pub asked_is : IsAsked asked before event
  pub step : Step n size before event reported after
  pub reports : IsAnswerOf size answer reported
  pub is_core : IsCore n size start ring after

-- the step's text is appended, and its ring is known to be in the state after it
pub record IsTold (line cpu : ℕ) (before after : Core) (event : model.Event) (reported : model.Answer)
    (old new : StepTextValue)
    : Type 0 where
  pub text : new.text ≡ old.text ++ step_text line cpu before event reported after
  pub knows : Knows new cpu after
  pub others : KnowsOthers cpu old new

-- so of each step that this may be, of a ring that is known
abbrev pub TellsStep : (line cpu : ℕ) → Asked → Answer → CoreValue → StepTextValue → StepTextValue → Type 0
TellsStep line cpu asked answer ring old new = (n size start : ℕ) (before after : Core) (event : model.Event)
    (reported : model.Answer)
    → Knows old cpu before
    → IsStepOf n size start before after event reported asked answer ring
    → IsTold line cpu before after event reported old new

-- and it is some step
pub record MayTell (cpu : ℕ) (asked : Asked) (answer : Answer) (ring : CoreValue) (old : StepTextValue) : Type 0 where
  pub n : ℕ
  pub size : ℕ
  pub start : ℕ
  pub before : Core
  pub after : Core
  pub event : model.Event
  pub reported : model.Answer
  pub knows : Knows old cpu before
  pub step : IsStepOf n size start before after event reported asked answer ring

-- ---- by who may make no text

-- the step is told, if there is a text
abbrev pub IsStepTold : (line cpu : ℕ) → Asked → Answer → CoreValue → Option StepTextValue → Option StepTextValue
    → Type 0
IsStepTold line cpu asked answer ring None None = Unit {0}
IsStepTold line cpu asked answer ring None (Some new) = ⊥
IsStepTold line cpu asked answer ring (Some old) None = ⊥
IsStepTold line cpu asked answer ring (Some old) (Some new) = TellsStep line cpu asked answer ring old new

-- this text is appended, if there is one, and the same is known of the rings
abbrev pub IsTextTold : List ℕ → Option StepTextValue → Option StepTextValue → Type 0
IsTextTold text None None = Unit {0}
IsTextTold text None (Some new) = ⊥
IsTextTold text (Some old) None = ⊥
IsTextTold text (Some old) (Some new) = (new.text ≡ old.text ++ text) × (new.rings ≡ old.rings)
