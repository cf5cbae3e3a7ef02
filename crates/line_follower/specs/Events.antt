-- The events of a whole reading.
use Rattle.std.specs.Prelude.{ℕ}
use Rattle.line_follower.specs.declared.whole.Event.{Event as Happening}
use Rattle.line_follower.specs.declared.whole.Event.TheVariants.{Page, Quiet, Ended}
use Rattle.line_follower.specs.Known.{Event, page, quiet, ended}

-- the event, as what is known after it speaks of it
abbrev pub event_seen : {T : Type 0} → Happening T → Event T
event_seen (Page cpu lines) = page cpu.0 lines.items
event_seen (Quiet cpu) = quiet cpu.0
event_seen (Ended cpu) = ended cpu.0

-- the CPU of an event
abbrev pub cpu_of : {T : Type 0} → Happening T → ℕ
cpu_of (Page cpu lines) = cpu.0
cpu_of (Quiet cpu) = cpu.0
cpu_of (Ended cpu) = cpu.0
