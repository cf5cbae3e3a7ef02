use Rattle.std.proofs.Common.{subst, arith}
use Rattle.collector.specs.Shown.{IsContentAt}
use Rattle.collector.proofs.collector.Collector.next_known.Goals as goal

pub returns-in-None-clause-unknown : goal.returns-in-None-clause-unknown
returns-in-None-clause-unknown c n from below = subst (IsContentAt c.args.self.now c.args.cpu.0 n) c.in-None.is
    (c.stretch-stretch.ensures.shown n from (let is = c.max.ensures in omega arith))
