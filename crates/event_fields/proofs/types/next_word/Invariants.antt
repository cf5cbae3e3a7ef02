use Rattle.std.proofs.Common.{◌≡◌, ◌≤◌, length}
use Rattle.event_fields.specs.Types.{words_of}
use Rattle.event_fields.proofs.types.next_word.Given as goal

abbrev pub invariant-loop-rest : goal.invariant-loop-rest
invariant-loop-rest l = record {
  words : words_of l.left ≡ words_of l.text;
  shorter : length l.left ≤ length l.text;
}

abbrev pub decreases-loop-rest : goal.decreases-loop-rest
decreases-loop-rest l = length l.left
