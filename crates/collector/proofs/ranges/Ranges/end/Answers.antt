use Rattle.collector.proofs.Ends.{last_stated}
use Rattle.collector.proofs.ranges.Ranges.end.Goals as goal

pub returns-then-first-span-clause-last : goal.returns-then-first-span-clause-last
returns-then-first-span-clause-last c some =
    last_stated c.args.self.now c.loop-range.range c.in-Some.first c.in-Some.span c.loop-range.invariant
    c.in-Some.is c.if-first-span.true
