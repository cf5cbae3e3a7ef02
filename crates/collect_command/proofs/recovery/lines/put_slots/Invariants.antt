use Rattle.std.proofs.Common.{take, flat_map}
use Rattle.text_values.specs.Putting.{Puts}
use Rattle.collect_command.specs.recovery.Lines.{damaged_line}
use Rattle.collect_command.proofs.recovery.lines.put_slots.Given as goal

abbrev pub invariant-loop-damaged : goal.invariant-loop-damaged
invariant-loop-damaged g l =
    Puts (flat_map (damaged_line l.form l.header) (take l.damaged-index l.slots)) l.fn.out l.out
