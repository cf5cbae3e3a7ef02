use Rattle.std.proofs.Common.{◌≡◌}
use Rattle.trace_dat.specs.kernel_texts.Names.{events_of}
use Rattle.collect_command.specs.Patterns.{marks_below}
use Rattle.collect_command.proofs.events.mark_events.Given as goal

abbrev pub invariant-loop-id : goal.invariant-loop-id
invariant-loop-id l = l.marks.items ≡ marks_below l.pattern (events_of l.names) l.id
