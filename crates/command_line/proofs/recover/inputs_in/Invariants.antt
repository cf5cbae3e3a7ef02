use Rattle.std.proofs.Common.{◌≡◌, ◌+◌, ◌≤◌, map, drop}
use Rattle.command_line.specs.FileWords.{count_input_paths}
use Rattle.command_line.proofs.recover.inputs_in.Given as goal

-- what is counted so far, and what the paths left count
abbrev pub invariant-loop-path : goal.invariant-loop-path
invariant-loop-path l =
    (count_input_paths (map (λ w. w.now) l.paths)
    ≡ l.count + count_input_paths (map (λ w. w.now) (drop l.path-index l.paths))) × (l.count ≤ l.path-index)
