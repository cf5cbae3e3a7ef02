use Rattle.std.proofs.Common.{◌++◌, ap, List, ℕ, ◌∙◌}
use Rattle.text_values.proofs.Behind.{behind_put}
use Rattle.text_values.proofs.Hexadecimal.{part_and_rest, part_more}
use Rattle.text_values.proofs.values.put_sixteens.Goals as goal

pub loop-part-preserved : goal.loop-part-preserved
loop-part-preserved c =
    let before = c.loop-part.invariant in
    let cut = c.in-Some.ensures.cases in
    let put = c.in_ok-extend_from_slice.ensures.items
    ∙ ap (λ (digits : List ℕ). c.loop-part.out.items ++ digits) c.sixteen_pairs.ensures in
    record {
      text = part_more _ _ _ _ _ _ (part_and_rest c.loop-part.left.now _ _ 16 cut.0 cut.1) before.text put;
      behind = behind_put _ _ _ _ before.behind put;
    }
