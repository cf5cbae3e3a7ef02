use Rattle.std.proofs.Common.{◌≡◌}
use Rattle.stream_collector.proofs.same.are_same_records.Given as goal

abbrev pub invariant-records : goal.invariant-records
invariant-records l = record {
  to : l.own ≡ l.others → l.initial.own ≡ l.initial.others;
  back : l.initial.own ≡ l.initial.others → l.own ≡ l.others;
}
