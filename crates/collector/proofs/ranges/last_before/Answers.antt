use Rattle.std.proofs.Common.{rules}
use Rattle.std.specs.declared.ops.Bound.TheVariants.{Excluded}
use Rattle.collector.proofs.Spans.{none_behind_last}
use Rattle.collector.proofs.ranges.last_before.Goals as goal

pub returns-clause-last : goal.returns-clause-last
returns-clause-last c q behind before =
    none_behind_last c.args.spans.now (Excluded c.args.place) c.range.result c.next_back.new.self
    c.in_ok-first.first.now c.in_ok-first.span.now (c.range.ensures.in_range tt) c.in_ok-first.ensures.steps
    q behind (search rules)
