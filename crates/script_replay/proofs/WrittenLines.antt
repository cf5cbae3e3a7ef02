-- A line by which a record is written at once: its frame is pushed, has the exchanges that follow, and is gone. Nothing
-- of them is logged.
use Rattle.std.proofs.Common.{◌≡◌, ◌≢◌, ℕ, ◌<◌, List, [], ◌∷◌, ◌++◌, length, Option, Some, None, refl, sym, ap, ◌∙◌}
use Rattle.std.proofs.Common.{append-nil}
use Rattle.trace_model.specs.Ring.{Core}
use Rattle.trace_model.specs.Steps as model
use Rattle.trace_model.specs.Steps.{Exchange}
use Rattle.text_model.specs.Script.{write}
use Rattle.text_model.specs.Log.{LogLine}
use Rattle.world_model.specs.Lanes.{Lane, lane_with, FrameRun, finishes, WritesFrame, LineRun}
use Rattle.world_model.specs.Log.{log_of}
use Rattle.script_replay.specs.log.LogTypes.{shown_log}
use Rattle.script_replay.specs.Known.{StepTextValue}
use Rattle.script_replay.specs.Value.{LaneValue}
use Rattle.script_replay.specs.Reports.{ReportsValue, AreTold}
use Rattle.script_replay.specs.Lanes.{IsLane, Happens}

untold : (n size line cpu : ℕ) (before after : Core) (exchanges : List Exchange) (steps : Option StepTextValue)
    → steps ≡ None
    → AreTold n size line cpu before exchanges after steps steps
untold n size line cpu before after exchanges None none = tt
untold n size line cpu before after exchanges (Some text) none = absurd (let z : ⊥ = cc in z)

module _ (n size start cpu line moment : ℕ) (payload : List ℕ) (lane : Lane) (pushed : Core)
    (push : model.Step n size lane.core (model.pushes moment (length payload)) model.pushed pushed) where
  abbrev x_push : Exchange
  x_push = record { event = model.pushes moment (length payload); answer = model.pushed }

  -- the lane with the frame
  abbrev pub between : Lane
  between = lane_with lane payload model.pushed pushed

  writes : (rest : List Exchange) (after : Lane) → pushed.frames ≢ []
      → FrameRun n size (length pushed.frames) between rest after
      → length after.core.frames < length pushed.frames
      → WritesFrame n size (model.pushes moment (length payload)) payload lane (x_push ∷ rest) after
  writes rest after some run is_gone = record {
    push = x_push;
    rest = rest;
    exchanges_are = refl;
    between = between;
    pushes = record { event_is = refl; core = pushed; step = push; after_is = refl };
    finishes = finishes some run is_gone;
  }

  pub line_written : (new : LaneValue) (reports : ReportsValue) (rest : List Exchange) (after : Lane)
      → pushed.frames ≢ []
      → FrameRun n size (length pushed.frames) between rest after
      → length after.core.frames < length pushed.frames
      → log_of line cpu rest ≡ []
      → IsLane n size start cpu new after
      → reports.steps ≡ None
      → Happens (λ n size before exchanges after. LineRun n size (write cpu moment payload) before exchanges after)
      line cpu n size start lane reports new reports
  line_written new reports rest after some run is_gone unlogged is_lane none = record {
    exchanges = x_push ∷ rest;
    after = after;
    happened = writes rest after some run is_gone;
    is_lane = is_lane;
    reported = record {
      log = sym (ap (λ (lines : List LogLine). shown_log reports.log ++ lines) unlogged ∙ append-nil _);
      steps = untold n size line cpu lane.core after.core (x_push ∷ rest) reports.steps none;
    };
  }
