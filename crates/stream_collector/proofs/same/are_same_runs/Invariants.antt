use Rattle.std.proofs.Common.{◌≡◌}
use Rattle.stream_collector.proofs.same.are_same_runs.Given as goal

abbrev pub invariant-runs : goal.invariant-runs
invariant-runs l = record {
  to : l.own ≡ l.others → l.initial.own ≡ l.initial.others;
  back : l.initial.own ≡ l.initial.others → l.own ≡ l.others;
}
