use Rattle.std.proofs.Common.{take}
use Rattle.std.specs.Prelude.{IsSome}
use Rattle.script_replay.specs.Replay.{IsStateAfter}
use Rattle.script_replay.proofs.replaying.obey_all.Given as goal

abbrev pub invariant-loop-index : goal.invariant-loop-index
invariant-loop-index g l = record {
  part_way : IsStateAfter l.script (take l.index l.script.commands) l.state;
  told : IsSome (g.T.Teller.told l.fn.steps) → IsSome l.state.reports.steps;
}
