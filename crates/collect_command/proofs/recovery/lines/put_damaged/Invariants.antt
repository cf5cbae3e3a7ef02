use Rattle.std.proofs.Common.{take}
use Rattle.text_values.specs.Putting.{Puts}
use Rattle.collect_command.specs.recovery.Lines.{damaged_lines}
use Rattle.collect_command.proofs.recovery.lines.put_damaged.Given as goal

abbrev pub invariant-loop-region : goal.invariant-loop-region
invariant-loop-region g l =
    Puts (damaged_lines l.form (take l.region-index l.regions)) l.fn.out l.out
