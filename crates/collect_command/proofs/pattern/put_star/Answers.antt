use native.Mathlib.Omega.{arith}
use Rattle.std.proofs.Common.{◌-◌, rules, ◌∙◌}
use Rattle.collect_command.proofs.PatternRows.{star_step}
use Rattle.collect_command.proofs.pattern.put_star.Goals as goal

pub loop-at-preserved : goal.loop-at-preserved
loop-at-preserved c = record {
  within = search rules;
  count = search rules;
  passed = λ f is_row. star_step f c.args.text.now c.loop-at.row.items (c.loop-at.at - 1) c.index.result.now
      c.index-in-loop-at.result.now (omega arith) c.loop-at.invariant.count c.index.ensures
      c.index-in-loop-at.ensures
      (c.loop-at.invariant.left (c.loop-at.at - 1) (omega arith) ∙ is_row.each (c.loop-at.at - 1) (omega arith))
      (λ k from to. c.loop-at.invariant.passed f is_row k (omega arith) to);
  left = search rules;
}
