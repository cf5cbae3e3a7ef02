use Rattle.std.proofs.Common.{◌≡◌, ◌≤◌, ℕ, List, true, map, drop}
use Rattle.command_line.specs.Causes.{has_word}
use Rattle.command_line.specs.declared.words.TheConstants.{MAX_FILES}
use Rattle.command_line.proofs.misuse.file_misuse.Given as goal

-- no more FILEs are counted than there may be; the words left are words of all
abbrev pub invariant-loop-word : goal.invariant-loop-word
invariant-loop-word g l = record {
  count : l.position ≤ MAX_FILES;
  words : (word : List ℕ) → has_word word (map g.S.AsStr.text (drop l.word-index l.words)) ≡ true
      → has_word word (map g.S.AsStr.text l.words) ≡ true;
}
