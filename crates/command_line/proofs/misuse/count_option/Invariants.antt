use Rattle.std.proofs.Common.{◌≡◌, ◌+◌, ◌≤◌, map, drop}
use Rattle.command_line.specs.Causes.{count_option}
use Rattle.command_line.proofs.misuse.count_option.Given as goal

-- what is counted so far, and what the words left count
abbrev pub invariant-loop-word : goal.invariant-loop-word
invariant-loop-word g l =
    (count_option l.option (map g.S.AsStr.text l.words)
    ≡ l.count + count_option l.option (map g.S.AsStr.text (drop l.word-index l.words)))
    × (l.count ≤ l.word-index)
