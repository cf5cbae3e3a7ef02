-- The text of a step of a ring.
use Rattle.std.specs.Prelude.{◌≡◌, ℕ, List, ◌++◌}
use Rattle.trace_model.specs.Ring.{Core}
use Rattle.trace_model.specs.Steps as model
use Rattle.ring_core.specs.Value.{CoreValue}
use Rattle.ring_frames.specs.declared.answer.Answer.{Answer}
use Rattle.step_model.specs.StepTexts.{step_text}
use Rattle.script_replay.specs.declared.asked.Asked.{Asked}
use Rattle.script_replay.specs.Tells.{IsStepOf}
use Rattle.step_text.specs.Known.{KnownValue, IsKnownOf}

-- it is some step of a ring of which this is known
pub record MayTellOf (asked : Asked) (answer : Answer) (ring : CoreValue) (k : KnownValue) : Type 0 where
  pub n : ℕ
  pub size : ℕ
  pub start : ℕ
  pub before : Core
  pub after : Core
  pub event : model.Event
  pub reported : model.Answer
  pub known : IsKnownOf k before
  pub step : IsStepOf n size start before after event reported asked answer ring

-- the step's text is appended, and the state after it is known
pub record IsToldOf (line cpu : ℕ) (before after : Core) (event : model.Event) (reported : model.Answer)
    (old new : List ℕ) (k : KnownValue)
    : Type 0 where
  pub text : new ≡ old ++ step_text line cpu before event reported after
  pub known : IsKnownOf k after

-- so of each step that this may be
abbrev pub TellsStepOf : (line cpu : ℕ) → Asked → Answer → CoreValue → KnownValue → (old new : List ℕ) → KnownValue
    → Type 0
TellsStepOf line cpu asked answer ring k old new told = (n size start : ℕ) (before after : Core) (event : model.Event)
    (reported : model.Answer)
    → IsKnownOf k before
    → IsStepOf n size start before after event reported asked answer ring
    → IsToldOf line cpu before after event reported old new told
