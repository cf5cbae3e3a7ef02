use Rattle.std.proofs.Common.{◌≡◌, map, drop}
use Rattle.command_line.specs.Causes.{first_option, has_wrong_value}
use Rattle.command_line.proofs.misuse.valued_flag.Given as goal

-- the first one of the words left is that of all
abbrev pub invariant-loop-word : goal.invariant-loop-word
invariant-loop-word g l =
    first_option (has_wrong_value l.command) (map g.S.AsStr.text (drop l.word-index l.words))
    ≡ first_option (has_wrong_value l.command) (map g.S.AsStr.text l.words)
