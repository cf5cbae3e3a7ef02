use Rattle.std.proofs.Common.{sym, subst, arith, rules}
use Rattle.collector.specs.Beside.{IsBeside}
use Rattle.collector.proofs.SideBySide.{beside_of}
use Rattle.collector.proofs.collector.Collector.beside.Goals as goal

pub returns : goal.returns
returns c = record {
  shown = λ n from below. subst (IsBeside c.args.self.now c.args.other.now c.args.cpu.0 n) (sym c.pair.ensures)
      (beside_of c.args.self.now c.args.other.now c.args.cpu.0 n c.stretch-own.result.content
      c.stretch-that.result.content
      (c.stretch-own.ensures.shown n from (omega arith)) (c.stretch-that.ensures.shown n from (omega arith)));
  goes_on = search rules;
  up_to = search rules;
  agree = c.stretch-own.ensures.agree;
  others_agree = c.stretch-that.ensures.agree;
}
