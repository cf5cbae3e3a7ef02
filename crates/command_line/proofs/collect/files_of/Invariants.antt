use Rattle.std.proofs.Common.{◌≡◌, map, ◌++◌, drop, option_map}
use Rattle.command_line.specs.FileWords.{file_words}
use Rattle.command_line.specs.Calls.{file_seen}
use Rattle.command_line.proofs.collect.files_of.Given as goal

-- what is read so far comes first, and then what the words left are read as
abbrev pub invariant-loop-word : goal.invariant-loop-word
invariant-loop-word l =
    (l.position ≡ l.word-index) ×
    (file_words 0 (map (λ w. w.now) l.words)
    ≡ option_map (λ rest. map file_seen l.files.items ++ rest)
    (file_words l.position (map (λ w. w.now) (drop l.word-index l.words))))
