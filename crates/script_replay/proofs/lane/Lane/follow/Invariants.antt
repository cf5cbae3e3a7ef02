use Rattle.std.proofs.Common.{◌≤◌, ◌-◌}
use Rattle.script_replay.specs.Lanes.{MakesExchanges}
use Rattle.script_replay.specs.Frames.{HasMadeSteps}
use Rattle.script_replay.proofs.lane.Lane.follow.Given as goal

abbrev pub invariant-loop-steps : goal.invariant-loop-steps
invariant-loop-steps g l = record {
  few : l.steps ≤ l.count;
  part_way : MakesExchanges (HasMadeSteps l.depth l.steps) l.at.line l.at.cpu.0 l.fn.self l.fn.reports l.self l.reports;
}

abbrev pub decreases-loop-steps : goal.decreases-loop-steps
decreases-loop-steps g l = l.count - l.steps
