-- The lanes of a script's CPUs, each at its CPU's index.
use Rattle.std.specs.Prelude.{◌≡◌, ◌≢◌, ℕ, List, Option, Some, None, Box, slice_index_or}
use Rattle.text_model.specs.Script.{Script}
use Rattle.world_model.specs.Lanes.{Lane, IsNewLane}
use Rattle.script_replay.specs.Value.{LaneValue}
use Rattle.script_replay.specs.Lanes.{IsLane, IsNewLaneOf}

module _ {Z : Type 0} where
  -- the lane of an entry, if there is one
  abbrev pub lane_in : Option (Box LaneValue Z) → Option LaneValue
  lane_in None = None
  lane_in (Some lane) = Some lane.value

  -- the lane of a CPU, if it was made
  abbrev pub lane_at : List (Option (Box LaneValue Z)) → ℕ → Option LaneValue
  lane_at lanes cpu = lane_in (slice_index_or lanes cpu None)

  -- the lanes of all CPUs but this one are the same
  abbrev pub AreSameBut : ℕ → List (Option (Box LaneValue Z)) → List (Option (Box LaneValue Z)) → Type 0
  AreSameBut cpu lanes others = (other : ℕ) → other ≢ cpu → lane_at lanes other ≡ lane_at others other

-- the lane that was made, or a new one of the script's
abbrev pub IsLaneFrom : Script → Option LaneValue → LaneValue → Type 0
IsLaneFrom script None v = IsNewLaneOf script.pages script.size script.start v
IsLaneFrom script (Some before) v = v ≡ before

-- there is a lane now: the one that was made before, or a new one
abbrev pub IsMadeFrom : Script → (before now : Option LaneValue) → Type 0
IsMadeFrom script before None = ⊥
IsMadeFrom script before (Some v) = IsLaneFrom script before v

-- the lane of this CPU: it was made and is this one, or is new and wasn't made yet
abbrev pub IsLaneAt : Script → (cpu : ℕ) → Option LaneValue → Lane → Type 0
IsLaneAt script cpu None lane = IsNewLane script.pages script.start lane
IsLaneAt script cpu (Some v) lane = IsLane script.pages script.size script.start cpu v lane
