-- What a replay of a script answers: the script's world; and what holds between two of its lines.
use Rattle.std.specs.Prelude.{◌≡◌, ℕ, ◌<◌, [], ◌∷◌, ◌++◌, ◌↔◌, List, length, Some, All, Contains, IfSome, IsSome}
use Rattle.std.specs.List.{slice_get}
use Rattle.trace_model.specs.Parcel.{Parcel}
use Rattle.trace_model.specs.Collection.{IsSame, IsLeastUpperBound}
use Rattle.text_model.specs.Script.{Command, Script}
use Rattle.text_model.specs.ScriptLimits.{IsWithinLimits, IsCommandWithin}
use Rattle.world_model.specs.Lanes.{Lane, IsNewLane}
use Rattle.world_model.specs.World.{World, IsNewWorld, WorldBehind, WorldOf}
use Rattle.world_model.specs.GenuineWorlds.{IsExact, IsGenuineWorld}
use Rattle.script_replay.specs.declared.log.line.LogLine.{LogLine}
use Rattle.script_replay.specs.declared.replaying.ReplayState.{ReplayState}
use Rattle.script_replay.specs.log.LogTypes.{shown_log}
use Rattle.step_model.specs.RunTexts.{TellsAll, trace_line, new_rings_text}
use Rattle.script_replay.specs.Known.{StepTextValue, Knows}
use Rattle.script_replay.specs.LanesByCpu.{lane_at, IsLaneAt}
use Rattle.script_replay.specs.Collected.{AreCollected}

-- ---- what is answered

-- The collectors and the log are those of this world of the script: each collector has and misses what was delivered
-- to it.
pub record IsReplay (script : Script) (collectors : List (List Parcel)) (log : List LogLine) (w : World) : Type 0 where
  pub world : WorldOf script w
  pub log_is : shown_log log ≡ w.log
  pub collectors_are : AreCollected collectors w.delivered

-- what each collector keeps of the pages that were delivered to it is exact, for each CPU
abbrev pub AreExact : (script : Script) → List (List Parcel) → (w : World) → IsGenuineWorld script w → Type 0
AreExact script collectors w genuine = (collector cpu : ℕ) (kept delivered : List Parcel) (lane : Lane)
    → slice_get collectors collector ≡ Some kept
    → slice_get w.delivered collector ≡ Some delivered
    → (at : slice_get w.lanes cpu ≡ Some lane)
    → IsExact lane.core.history script.start (genuine.cut cpu lane at).events cpu kept delivered

-- two collectors to which the same pages were delivered have and miss the same
abbrev pub AreAlike : List (List Parcel) → World → Type 0
AreAlike collectors w = (one other : ℕ) (kept others delivered others_delivered : List Parcel)
    → slice_get collectors one ≡ Some kept
    → slice_get collectors other ≡ Some others
    → slice_get w.delivered one ≡ Some delivered
    → slice_get w.delivered other ≡ Some others_delivered
    → ((parcel : Parcel) → Contains delivered parcel ↔ Contains others_delivered parcel)
    → IsSame kept others

-- any two collectors have a least collection above both: what the one has and misses, and the other
abbrev pub Join : List (List Parcel) → Type 0
Join collectors = (one other : ℕ) (kept others : List Parcel)
    → slice_get collectors one ≡ Some kept
    → slice_get collectors other ≡ Some others
    → IsLeastUpperBound kept others (kept ++ others)

-- The headline. What is answered is the script's world. In it each CPU's parcels part its committed records, under
-- their own numbers, with exactly the numbers missing between them that were overwritten unread; each collector has
-- exactly the records of the pages that were delivered to it, and misses exactly the numbers that were overwritten
-- unread directly before those; collectors to which the same pages were delivered are the same; and any two have a
-- least one above both.
pub record IsHeadline (script : Script) (collectors : List (List Parcel)) (log : List LogLine) : Type 0 where
  pub world : World
  pub replay : IsReplay script collectors log world
  pub genuine : IsGenuineWorld script world
  pub exact : AreExact script collectors world genuine
  pub alike : AreAlike collectors world
  pub join : Join collectors

-- ---- between two lines

-- the text is that of the script before its first line, and each new ring is known
pub record IsNewText (script : Script) (steps : StepTextValue) : Type 0 where
  pub text : (lanes : List Lane)
      → length lanes ≡ script.cpus
      → All (IsNewLane script.pages script.start) lanes
      → steps.text ≡ trace_line script ++ new_rings_text lanes
  pub knows : (cpu : ℕ) (lane : Lane)
      → cpu < script.cpus
      → IsNewLane script.pages script.start lane
      → Knows steps cpu lane.core

-- The text is that of the steps of these lines, which lead to this world, and the ring of each CPU is known.
pub record IsToldSoFar (script : Script) (lines : List (ℕ × Command)) (w : World) (steps : StepTextValue)
    : Type 0 where
  pub new : World
  pub is_new : IsNewWorld script new
  pub text : List ℕ
  pub tells : TellsAll script lines new w text
  pub text_is : steps.text ≡ trace_line script ++ new_rings_text new.lanes ++ text
  pub knows : (cpu : ℕ) (lane : Lane) → slice_get w.lanes cpu ≡ Some lane → Knows steps cpu lane.core

-- After these lines: the lanes that were made, each at its CPU, the collectors and the log are those of the world
-- there, and each lane that wasn't made is new.
pub record IsStateAfter {T : Type 0} (script : Script) (lines : List (ℕ × Command)) (state : ReplayState T)
    : Type 0 where
  pub world : World
  pub behind : WorldBehind script lines world
  pub lanes_are : (cpu : ℕ) (lane : Lane)
      → slice_get world.lanes cpu ≡ Some lane
      → IsLaneAt script cpu (lane_at state.lanes.items cpu) lane
  pub collectors_are : AreCollected state.collectors.items world.delivered
  pub log_is : shown_log state.reports.log ≡ world.log
  pub steps_are : IfSome state.reports.steps (λ steps. IsToldSoFar script lines world steps)

-- a command of this script may be obeyed after some of its lines
pub record IsReady {T : Type 0} (script : Script) (command : Command) (state : ReplayState T) : Type 0 where
  pub limits : IsWithinLimits script
  pub within : IsCommandWithin script.cpus script.collectors command
  pub lines : List (ℕ × Command)
  pub part_way : IsStateAfter script lines state

-- One line more is obeyed, whichever were obeyed before; and a text that is asked for goes on.
abbrev pub LeadsOn : {T : Type 0} → Script → ℕ × Command → ReplayState T → ReplayState T → Type 0
LeadsOn script line old new = (lines : List (ℕ × Command))
    → IsStateAfter script lines old
    → IsStateAfter script (lines ++ line ∷ []) new × (IsSome old.reports.steps → IsSome new.reports.steps)
