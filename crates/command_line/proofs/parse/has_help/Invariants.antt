use Rattle.std.proofs.Common.{◌≡◌, map, drop}
use Rattle.command_line.specs.CommandLine.{has_help_word}
use Rattle.command_line.proofs.parse.has_help.Given as goal

-- the words left have one of them if all have
abbrev pub invariant-loop-word : goal.invariant-loop-word
invariant-loop-word g l =
    has_help_word (map g.S.AsStr.text (drop l.word-index l.words)) ≡ has_help_word (map g.S.AsStr.text l.words)
