use Rattle.collector.proofs.Merging.{least_known, merged_known}
use Rattle.collector.proofs.collector.Collector.merge.Goals as goal

pub returns-then-holds_all-clause-join : goal.returns-then-holds_all-clause-join
returns-then-holds_all-clause-join c = least_known c.args.self.now c.args.other.now c.in_ok-look_at_all.ensures.agree
    (c.holds_all.ensures.0 c.if-holds_all.true)

pub returns-then-holds_all-clause-kept : goal.returns-then-holds_all-clause-kept
returns-then-holds_all-clause-kept c = merged_known c.args.self.now c.args.other.now
    (c.holds_all.ensures.0 c.if-holds_all.true)
