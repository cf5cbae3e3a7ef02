-- What a replay reports of steps: the log, and the text of the steps if that is asked for.
use Rattle.std.specs.Prelude.{◌≡◌, ℕ, List, [], ◌∷◌, ◌++◌, flat_map, Option, Some, None, IfSome}
use Rattle.trace_model.specs.Ring.{Core}
use Rattle.trace_model.specs.Steps as model
use Rattle.trace_model.specs.Steps.{Exchange}
use Rattle.trace_model.specs.Parcel.{Parcel}
use Rattle.text_model.specs.Printing.{printed_log_line}
use Rattle.world_model.specs.Log.{log_of}
use Rattle.ring_core.specs.Value.{CoreValue}
use Rattle.ring_frames.specs.declared.answer.Answer.{Answer}
use Rattle.script_replay.specs.declared.log.line.LogLine.{LogLine}
use Rattle.script_replay.specs.log.LogTypes.{shown_log, shown_log_line}
use Rattle.step_model.specs.RunTexts.{Tells, gain_text, gains_of}
use Rattle.script_replay.specs.declared.asked.Asked.{Asked}
use Rattle.script_replay.specs.Known.{StepTextValue, Knows, KnowsOthers}
use Rattle.script_replay.specs.Tells.{IsStepOf, MayTell, IsTextTold}

-- what contracts see of the reports: the log, and the text of steps, if that is asked for
pub record ReportsValue : Type 0 where
  pub log : List LogLine
  pub steps : Option StepTextValue

-- ---- the text of exchanges

-- The text of these steps of the ring of a CPU is appended, and the ring is known to be in the state after them.
pub record HaveTold (n size line cpu : ℕ) (before : Core) (exchanges : List Exchange) (after : Core)
    (old new : StepTextValue)
    : Type 0 where
  pub text : List ℕ
  pub tells : Tells n size line cpu before exchanges after text
  pub text_is : new.text ≡ old.text ++ text
  pub knows : Knows new cpu after
  pub others : KnowsOthers cpu old new

-- so it is if the text is asked for
abbrev pub AreTold : (n size line cpu : ℕ) → Core → List Exchange → Core → Option StepTextValue → Option StepTextValue
    → Type 0
AreTold n size line cpu before exchanges after None None = Unit {0}
AreTold n size line cpu before exchanges after None (Some new) = ⊥
AreTold n size line cpu before exchanges after (Some old) None = ⊥
AreTold n size line cpu before exchanges after (Some old) (Some new) =
    HaveTold n size line cpu before exchanges after old new

-- These exchanges with the ring of a CPU are reported, in the script's line of this number.
pub record Reported (n size line cpu : ℕ) (before : Core) (exchanges : List Exchange) (after : Core)
    (old new : ReportsValue)
    : Type 0 where
  pub log : shown_log new.log ≡ shown_log old.log ++ log_of line cpu exchanges
  pub steps : AreTold n size line cpu before exchanges after old.steps new.steps

-- the ring of this CPU is known to be in this state, if the text is asked for
abbrev pub KnowsRing : ReportsValue → (cpu : ℕ) → Core → Type 0
KnowsRing reports cpu c = IfSome reports.steps (λ steps. Knows steps cpu c)

-- ---- one step

-- the step may be told, if that is asked for
abbrev pub MayReport : (cpu : ℕ) → Asked → Answer → CoreValue → ReportsValue → Type 0
MayReport cpu asked answer ring reports = IfSome reports.steps (λ steps. MayTell cpu asked answer ring steps)

-- each step that this may be, of a ring that is known, is reported
abbrev pub IsReported : (line cpu : ℕ) → Asked → Answer → CoreValue → ReportsValue → ReportsValue → Type 0
IsReported line cpu asked answer ring old new = (n size start : ℕ) (before after : Core) (event : model.Event)
    (reported : model.Answer)
    → KnowsRing old cpu before
    → IsStepOf n size start before after event reported asked answer ring
    → Reported n size line cpu before (record { event = event; answer = reported } ∷ []) after old new

-- ---- deliveries

-- a delivery is reported by its line
pub record LineIsReported (line : LogLine) (old new : ReportsValue) : Type 0 where
  pub log : new.log ≡ old.log ++ line ∷ []
  pub steps : IsTextTold (printed_log_line (shown_log_line line)) old.steps new.steps

-- and what it brings
pub record GainsAreReported (parcel : Parcel) (old new : ReportsValue) : Type 0 where
  pub log : new.log ≡ old.log
  pub steps : IsTextTold (flat_map gain_text (gains_of parcel)) old.steps new.steps
