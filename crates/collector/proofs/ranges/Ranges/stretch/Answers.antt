use Rattle.std.proofs.Common.{◌+◌, arith}
use Rattle.collector.proofs.Spans.{none_where_free}
use Rattle.collector.proofs.ranges.Ranges.stretch.Goals as goal

pub returns-then-end_before-clause-unreported : goal.returns-then-end_before-clause-unreported
returns-then-end_before-clause-unreported c n content from below =
    none_where_free c.args.self.now c.args.number 18446744073709551615
    (c.end_before.ensures c.if-end_before.true 18446744073709551615) n content from below

pub returns-then-end_before-clause-unreported_here : goal.returns-then-end_before-clause-unreported_here
returns-then-end_before-clause-unreported_here c content =
    let number = c.args.number in
    none_where_free c.args.self.now number (number + 1) (c.end_before.ensures c.if-end_before.true (number + 1))
    number content (omega arith) (omega arith)
