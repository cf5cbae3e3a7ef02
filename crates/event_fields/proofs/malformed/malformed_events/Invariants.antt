use Rattle.std.proofs.Common.{◌≡◌, ◌-◌, ◌≤◌, ◌^◌, map}
use Rattle.trace_dat.specs.kernel_texts.Names.{events_of}
use Rattle.event_fields.specs.Malformed.{malformed_seen, malformed_below}
use Rattle.event_fields.proofs.malformed.malformed_events.Given as goal

abbrev pub invariant-loop-id : goal.invariant-loop-id
invariant-loop-id l = record {
  bound : l.from ≤ 2 ^ 16;
  listed : map malformed_seen l.events.items ≡ malformed_below (events_of l.names) l.from;
}

abbrev pub decreases-loop-id : goal.decreases-loop-id
decreases-loop-id l = 2 ^ 16 - l.from
