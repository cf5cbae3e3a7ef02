-- What ties a lane as a value to one of a script's world, and what a line does to it.
use Rattle.std.specs.Prelude.{◌≡◌, ℕ, ◌%◌, ◌<◌, ◌≤◌, List, length, map, IfSome}
use Rattle.trace_model.specs.declared.limits.TheConstants.{MAX_PAGES, MIN_SIZE, MAX_SIZE, MAX_CPUS}
use Rattle.trace_model.specs.Steps.{Exchange}
use Rattle.text_model.specs.Script.{Command}
use Rattle.world_model.specs.Lanes.{Lane, IsNewLane, HasPayloads, LineRun}
use Rattle.world_model.specs.World.{parcel_of}
use Rattle.page_numbers.specs.Parcels.{as_parcels}
use Rattle.ring_core.specs.IsCore.{IsCore}
use Rattle.script_replay.specs.Value.{LaneValue}
use Rattle.script_replay.specs.Reports.{ReportsValue, Reported, KnowsRing}

-- The value is this lane of a CPU, whose ring has n pages of this size and the first fill start: the ring is the
-- lane's, with a payload for each frame, and what was taken from it is kept as parcels of the CPU.
pub record IsLane (n size start cpu : ℕ) (v : LaneValue) (lane : Lane) : Type 0 where
  pub most : n ≤ MAX_PAGES
  pub small : MIN_SIZE ≤ size
  pub large : size ≤ MAX_SIZE
  pub words : size % 4 ≡ 0
  pub known : cpu < MAX_CPUS
  pub is_core : IsCore n size start v.core lane.core
  pub payloads_are : v.payloads ≡ lane.payloads
  pub fit : HasPayloads lane
  pub body : IfSome v.body (λ body. length body ≡ size)
  pub taken_are : as_parcels v.taken ≡ map (parcel_of cpu) lane.core.reader.taken

-- the value is a lane of this CPU
abbrev pub IsLaneOf : (cpu : ℕ) → LaneValue → Type 0
IsLaneOf cpu v = (n size start : ℕ) × (lane : Lane) × IsLane n size start cpu v lane

-- the value is a new lane, of whichever CPU
abbrev pub IsNewLaneOf : (n size start : ℕ) → LaneValue → Type 0
IsNewLaneOf n size start v =
    (lane : Lane) × IsNewLane n start lane × ((cpu : ℕ) → cpu < MAX_CPUS → IsLane n size start cpu v lane)

-- the value is a lane of this CPU, whose ring is known if the text of its steps is asked for
abbrev pub IsReportedLane : (cpu : ℕ) → LaneValue → ReportsValue → Type 0
IsReportedLane cpu v reports =
    (n size start : ℕ) × (lane : Lane) × IsLane n size start cpu v lane × KnowsRing reports cpu lane.core

-- Exchanges of this kind lead from a lane to another one, which the value after them is, and they are reported.
pub record Happens (run : (n size : ℕ) → Lane → List Exchange → Lane → Type 0) (line cpu n size start : ℕ)
    (before : Lane) (old : ReportsValue) (new : LaneValue) (reports : ReportsValue)
    : Type 0 where
  pub exchanges : List Exchange
  pub after : Lane
  pub happened : run n size before exchanges after
  pub is_lane : IsLane n size start cpu new after
  pub reported : Reported n size line cpu before.core exchanges after.core old reports

-- so it is for each lane that the value before is, whose ring is known if the text of its steps is asked for
abbrev pub MakesExchanges : ((n size : ℕ) → Lane → List Exchange → Lane → Type 0) → (line cpu : ℕ)
    → LaneValue → ReportsValue → LaneValue → ReportsValue → Type 0
MakesExchanges run line cpu old old_reports new reports = (n size start : ℕ) (lane : Lane)
    → IsLane n size start cpu old lane
    → KnowsRing old_reports cpu lane.core
    → Happens run line cpu n size start lane old_reports new reports

-- what a line of the script asks for is done
abbrev pub HasLine : Command → (line cpu : ℕ) → LaneValue → ReportsValue → LaneValue → ReportsValue → Type 0
HasLine command line cpu old old_reports new reports =
    MakesExchanges (λ n size before exchanges after. LineRun n size command before exchanges after)
    line cpu old old_reports new reports
