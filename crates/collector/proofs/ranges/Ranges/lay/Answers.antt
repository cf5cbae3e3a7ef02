use Rattle.std.proofs.Common.{rules}
use Rattle.collector.specs.Ranges.{ReportSame}
use Rattle.collector.proofs.Spans.{report_same, both_laid}
use Rattle.collector.proofs.ranges.Ranges.lay.Goals as goal

pub returns-in_err-mark-2-clause-refused : goal.returns-in_err-mark-2-clause-refused
returns-in_err-mark-2-clause-refused c =
    let same : ReportSame c.args.self.now c.mark-2.new.self =
    report_same c.args.self.now c.mark.new.self c.mark-2.new.self c.mark.ensures.same c.mark-2.ensures.same in
    search rules

pub returns-in_err-cut-clause-refused : goal.returns-in_err-cut-clause-refused
returns-in_err-cut-clause-refused c =
    let same : ReportSame c.args.self.now c.cut.new.self = report_same c.args.self.now c.mark-2.new.self c.cut.new.self
    (report_same c.args.self.now c.mark.new.self c.mark-2.new.self c.mark.ensures.same c.mark-2.ensures.same)
    c.cut.ensures.same in
    search rules

pub set-requires-2-clause-cut : goal.set-requires-2-clause-cut
set-requires-2-clause-cut c = c.set.ensures.cuts c.args.end c.requires.forward c.in_ok-cut.ensures.cut

pub returns-clause-laid : goal.returns-clause-laid
returns-clause-laid c =
    both_laid c.args.self.now c.cut.new.self c.set.new.self c.set-2.new.self c.args.low c.args.first c.args.end
    c.args.parcel
    c.requires.missing c.requires.forward
    (report_same c.args.self.now c.mark-2.new.self c.cut.new.self
    (report_same c.args.self.now c.mark.new.self c.mark-2.new.self c.mark.ensures.same c.mark-2.ensures.same)
    c.cut.ensures.same)
    record {
      inside = c.set.ensures.inside;
      alone = c.set.ensures.alone;
      in_front = c.set.ensures.in_front;
      behind = c.set.ensures.behind;
    }
    record {
      inside = c.set-2.ensures.inside;
      alone = c.set-2.ensures.alone;
      in_front = c.set-2.ensures.in_front;
      behind = c.set-2.ensures.behind;
    }
