use Rattle.std.proofs.Common.{◌≡◌, ℕ, ◌+◌, ◌-◌, length}
use Rattle.script_replay.specs.LanesByCpu.{lane_at}
use Rattle.script_replay.proofs.lanes.grow.Given as goal

abbrev pub invariant-loop-lanes : goal.invariant-loop-lanes
invariant-loop-lanes l = (other : ℕ) → lane_at l.lanes.items other ≡ lane_at l.initial.lanes.items other

abbrev pub decreases-loop-lanes : goal.decreases-loop-lanes
decreases-loop-lanes l = l.cpu + 1 - length l.lanes.items
