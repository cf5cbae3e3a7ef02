use native.Mathlib.Omega.{arith}
use Rattle.std.proofs.Common.{◌-◌, rules}
use Rattle.collect_command.proofs.PatternRows.{row_before}
use Rattle.collect_command.proofs.pattern.matches.Goals as goal

pub loop-at-preserved : goal.loop-at-preserved
loop-at-preserved c = record {
  within = search rules;
  row = row_before c.args.pattern.now c.args.text.now _ _ (c.loop-at.at - 1) c.loop-at.at (omega arith) (omega arith)
      c.put_before.ensures c.loop-at.invariant.row;
}
