use Rattle.std.proofs.Common.{rules, ap, subst, arith}
use Rattle.stream_collector.specs.declared.marks.Marks.{Marks}
use Rattle.stream_collector.specs.Marking.{AreWithinEnds}
use Rattle.stream_collector.proofs.Raising.{bound_known}
use Rattle.stream_collector.proofs.stream.StreamCollector.forgotten.Goals as goal

pub returns-then-bound-marks-clause-raises : goal.returns-then-bound-marks-clause-raises
returns-then-bound-marks-clause-raises c =
    let own = ap (λ (m : Marks). m.bound) c.marks.ensures in
    let le = c.if-bound-marks.true in
    bound_known c.args.self.now _ c.args.cpu.0 c.args.bound.0
    (subst AreWithinEnds c.self.view_is c.self.invariant.within) (omega arith) (search rules)
