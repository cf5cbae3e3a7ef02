use Rattle.std.proofs.Common.{sym}
use Rattle.collector.proofs.Indexes.{unreported_of, unreported_here_of}
use Rattle.collector.proofs.index.Index.stretch.Goals as goal

pub returns-in-Some-clause-unreported : goal.returns-in-Some-clause-unreported
returns-in-Some-clause-unreported c =
    unreported_of c.args.self.now c.args.cpu.0 c.args.number c.stretch.result.end c.in-Some.ranges.now
    c.stretch.result.content (sym c.in-Some.ensures.value) c.stretch.ensures.unreported

pub returns-in-Some-clause-unreported_here : goal.returns-in-Some-clause-unreported_here
returns-in-Some-clause-unreported_here c =
    unreported_here_of c.args.self.now c.args.cpu.0 c.args.number c.in-Some.ranges.now
    c.stretch.result.content (sym c.in-Some.ensures.value) c.stretch.ensures.unreported_here
