use Rattle.std.proofs.Common.{refl}
use Rattle.collector.proofs.Spans.{cut_reports_same}
use Rattle.collector.proofs.ranges.Ranges.cut.Goals as goal

pub returns-in_ok-insert-2-clause-same : goal.returns-in_ok-insert-2-clause-same
returns-in_ok-insert-2-clause-same c =
    cut_reports_same c.args.self.now.spans c.insert.new.self c.insert-then-place-span.new.self c.in-Some.first
    c.args.place c.in-Some.span
    record { end = c.args.place; content = c.in-Some.span.content }
    c.in-Some.ensures.there c.if-first-place.true c.if-place-span.true c.in-Some.ensures.last refl refl
    c.in_ok-insert.ensures.updates c.in_ok-insert-2.ensures.updates
