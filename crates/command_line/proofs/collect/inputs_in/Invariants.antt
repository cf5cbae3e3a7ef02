use Rattle.std.proofs.Common.{◌≡◌, ◌+◌, ◌≤◌, map, drop}
use Rattle.command_line.specs.FileWords.{count_inputs}
use Rattle.command_line.specs.Calls.{file_seen}
use Rattle.command_line.proofs.collect.inputs_in.Given as goal

-- what is counted so far, and what the files left count
abbrev pub invariant-loop-file : goal.invariant-loop-file
invariant-loop-file l =
    (count_inputs (map file_seen l.files) ≡ l.count + count_inputs (map file_seen (drop l.file-index l.files)))
    × (l.count ≤ l.file-index)
