use Rattle.std.proofs.Common.{◌≡◌, ℕ, List, true, map, drop}
use Rattle.command_line.specs.Causes.{begins_with, has_value}
use Rattle.command_line.proofs.misuse.value_of.Given as goal

-- what the words left have all have, and the next word is the option's value, if the one before it is the option
abbrev pub invariant-loop-word : goal.invariant-loop-word
invariant-loop-word g l = record {
  left : (value : List ℕ) → has_value l.option value (map g.S.AsStr.text (drop l.word-index l.words)) ≡ true
      → has_value l.option value (map g.S.AsStr.text l.words) ≡ true;
  next : l.is_next ≡ true → (value : List ℕ)
      → begins_with value (map g.S.AsStr.text (drop l.word-index l.words)) ≡ true
      → has_value l.option value (map g.S.AsStr.text l.words) ≡ true;
}
