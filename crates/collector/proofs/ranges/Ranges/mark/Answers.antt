use Rattle.std.proofs.Common.{refl}
use Rattle.collector.proofs.Spans.{edges_unchanged, edges_marked}
use Rattle.collector.proofs.ranges.Ranges.mark.Goals as goal

pub returns-in_err-insert-clause-edges : goal.returns-in_err-insert-clause-edges
returns-in_err-insert-clause-edges c =
    edges_unchanged c.args.self.now c.cut.new.self.spans c.insert.new.self c.in_err-insert.ensures.err
    c.cut.ensures.edges

pub returns-in_ok-insert-clause-edges : goal.returns-in_ok-insert-clause-edges
returns-in_ok-insert-clause-edges c =
    edges_marked c.args.self.now c.cut.new.self.spans c.insert.new.self c.args.place _ refl
    c.in_ok-insert.ensures.updates c.cut.ensures.edges
