use Rattle.std.proofs.Common.{◌≡◌, ℕ, ◌-◌, ◌<◌, ◌≤◌, ◌^◌, None}
use Rattle.trace_dat.specs.kernel_texts.Names.{events_of}
use Rattle.event_fields.specs.Events.{known_by, fields_of_event}
use Rattle.event_fields.proofs.events.EventFields.new.Given as goal

abbrev pub invariant-loop-id : goal.invariant-loop-id
invariant-loop-id l = record {
  bound : l.from ≤ 2 ^ 16;
  below : (n : ℕ) → n < l.from → known_by l.fields n ≡ fields_of_event (events_of l.names n);
  above : (n : ℕ) → l.from ≤ n → known_by l.fields n ≡ None;
}

abbrev pub decreases-loop-id : goal.decreases-loop-id
decreases-loop-id l = 2 ^ 16 - l.from
