use Rattle.std.proofs.Common.{◌-◌, ◌≤◌}
use Rattle.script_replay.specs.Lanes.{MakesExchanges}
use Rattle.script_replay.specs.Takes.{ReadsSteps}
use Rattle.script_replay.proofs.lane.Lane.step_reader.Given as goal

abbrev pub invariant-loop-steps : goal.invariant-loop-steps
invariant-loop-steps g l = record {
  few : l.steps ≤ l.count;
  so_far : MakesExchanges (ReadsSteps l.steps l.goes_on) l.at.line l.at.cpu.0 l.initial.self l.initial.reports l.self
      l.reports;
}

abbrev pub decreases-loop-steps : goal.decreases-loop-steps
decreases-loop-steps g l = l.count - l.steps
