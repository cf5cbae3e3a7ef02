use Rattle.std.proofs.Common.{ℕ, ◌-◌, ◌<◌, ◌≤◌}
use Rattle.trace_model.specs.Record.{Record}
use Rattle.trace_model.specs.Collection.{Has}
use Rattle.page_borrow.specs.Entries.{numbered_record}
use Rattle.stream_collector.proofs.stream.StreamCollector.last_record.Given as goal

abbrev pub invariant-loop-last : goal.invariant-loop-last
invariant-loop-last l = record {
  there : Has l.self.parcels l.cpu.0 l.last.number.0 (numbered_record l.last).1;
  from : l.from ≤ l.last.number.0;
  below : l.last.number.0 < l.high;
  up_to : l.high ≤ l.end;
  none : (n : ℕ) (r : Record) → l.high ≤ n → n < l.end → Has l.self.parcels l.cpu.0 n r → ⊥;
}

abbrev pub decreases-loop-last : goal.decreases-loop-last
decreases-loop-last l = l.high - l.last.number.0
