use Rattle.std.proofs.Common.{◌≡◌, ◌-◌, ◌≤◌, [], length}
use Rattle.std.specs.Prelude.{All}
use Rattle.script_replay.proofs.replaying.new_collectors.Given as goal

abbrev pub invariant-loop-alloc : goal.invariant-loop-alloc
invariant-loop-alloc l = record {
  few : length l.collectors.items ≤ l.count;
  new : All (λ kept. kept ≡ []) l.collectors.items;
}

abbrev pub decreases-loop-alloc : goal.decreases-loop-alloc
decreases-loop-alloc l = l.count - length l.collectors.items
