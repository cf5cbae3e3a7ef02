use Rattle.std.proofs.Common.{◌≡◌, ◌++◌, take, flat_map}
use Rattle.text_model.specs.Printing.{printed_log_line}
use Rattle.script_replay.specs.log.LogTypes.{shown_log}
use Rattle.script_replay.proofs.log.printer.put_lines.Given as goal

abbrev pub invariant-loop-logged : goal.invariant-loop-logged
invariant-loop-logged l =
    l.out.items ≡ l.initial.out.items ++ flat_map printed_log_line (shown_log (take l.logged-index l.log))
