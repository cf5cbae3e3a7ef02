use Rattle.std.proofs.Common.{◌≡◌, ◌≤◌, ◌++◌, length, Ok}
use Rattle.text_model.specs.ScriptLines.{◌>>=◌}
use Rattle.text_model.specs.HeaderReading.{significant_lines_after}
use Rattle.text_model.specs.ScriptReading.{commands_from}
use Rattle.trace_script.specs.Kept.{commands_kept, AreKept, ReadAs}
use Rattle.trace_script.proofs.read.read_commands.Given as goal

abbrev pub invariant-loop-payloads : goal.invariant-loop-payloads
invariant-loop-payloads l = record {
  so_far : commands_from l.cpus l.collectors (significant_lines_after l.initial.lines.passed l.initial.lines.rest.now)
      ≡
      (commands_from l.cpus l.collectors (significant_lines_after l.lines.passed l.lines.rest.now) >>= λ commands.
      Ok (commands_kept l.payloads.items 0 0 l.kept ++ commands));
  read : ReadAs l.cpus l.collectors (significant_lines_after l.initial.lines.passed l.initial.lines.rest.now)
      (commands_kept l.payloads.items 0 0 l.kept) (significant_lines_after l.lines.passed l.lines.rest.now);
  numbered : length l.kept ≤ l.lines.passed;
  kept : AreKept 0 0 (length l.payloads.items) l.kept;
}

abbrev pub decreases-loop-payloads : goal.decreases-loop-payloads
decreases-loop-payloads l = length l.lines.rest.now
