use Rattle.std.proofs.Common.{◌≡◌, None, map, drop}
use Rattle.std.specs.Prelude.{option_map}
use Rattle.command_line.specs.Causes.{without_value}
use Rattle.command_line.proofs.misuse.without_value.Given as goal

-- the first one of the words left, and of the word before them, is that of all
abbrev pub invariant-loop-word : goal.invariant-loop-word
invariant-loop-word g l =
    without_value l.command (option_map (λ w. w.now) l.waiting) (map g.S.AsStr.text (drop l.word-index l.words))
    ≡ without_value l.command None (map g.S.AsStr.text l.words)
