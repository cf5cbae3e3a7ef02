use Rattle.std.proofs.Common.{◌≡◌, ◌++◌, length}
use Rattle.trace_model.specs.Sublist.{IsPrefix}
use Rattle.text_values.specs.Digits.{pairs_of}
use Rattle.text_values.proofs.values.put_sixteens.Given as goal

abbrev pub invariant-loop-part : goal.invariant-loop-part
invariant-loop-part l = record {
  text : l.out.items ++ pairs_of l.left ≡ l.initial.out.items ++ pairs_of l.bytes;
  behind : IsPrefix l.initial.out.items l.out.items;
}

abbrev pub decreases-loop-part : goal.decreases-loop-part
decreases-loop-part l = length l.left
