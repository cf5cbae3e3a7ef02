use Rattle.std.proofs.Common.{◌≡◌, ◌-◌, ◌≤◌, ◌++◌, length, take, drop}
use Rattle.capture.specs.stamps.Restored.{restored_data}
use Rattle.capture.proofs.stamps.restore.restore_data.Given as goal

abbrev pub invariant-loop-reached : goal.invariant-loop-reached
invariant-loop-reached l = record {
  within : l.reached.at ≤ length l.«data»;
  done : restored_data l.fn.time l.fn.«data»
      ≡ take l.reached.at l.«data» ++ restored_data l.reached.before (drop l.reached.at l.«data»);
}

abbrev pub decreases-loop-reached : goal.decreases-loop-reached
decreases-loop-reached l = length l.«data» - l.reached.at
