use Rattle.std.proofs.Common.{◌-◌, ◌*◌, ◌≤◌, length, List}
use Rattle.trace_model.specs.Words.{Word}
use Rattle.page_image.specs.Walk.{HasRead}
use Rattle.page_image.proofs.count.count_records.Given as goal

abbrev pub invariant-loop-reached : goal.invariant-loop-reached
invariant-loop-reached l =
    (4 * l.reached.count ≤ l.reached.at) × (l.reached.at ≤ length l.«data»)
    × ((words : List Word) × HasRead l.«data» l.fn.time words l.reached)

abbrev pub decreases-loop-reached : goal.decreases-loop-reached
decreases-loop-reached l = length l.«data» - l.reached.at
