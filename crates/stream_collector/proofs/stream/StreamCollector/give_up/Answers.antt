use Rattle.std.proofs.Common.{rules, ap, ◌∙◌, sym, subst, arith}
use Rattle.stream_collector.specs.declared.marks.Marks.{Marks}
use Rattle.stream_collector.specs.Stream.{Stream}
use Rattle.stream_collector.specs.Marking.{AreWithinEnds}
use Rattle.stream_collector.specs.Forgetting.{HasBound}
use Rattle.stream_collector.specs.contracts.stream.StreamCollector.{the_view}
use Rattle.stream_collector.proofs.WithinEnds.{lost_standing}
use Rattle.stream_collector.proofs.Raising.{bound_known}
use Rattle.stream_collector.proofs.stream.StreamCollector.give_up.Goals as goal

pub returns-then-bound-marks-clause-raises : goal.returns-then-bound-marks-clause-raises
returns-then-bound-marks-clause-raises c =
    let own = ap (λ (m : Marks). m.bound) c.marks.ensures in
    let le = c.if-bound-marks.true in
    bound_known c.args.self.now _ c.args.cpu.0 c.args.bound.0
    (subst AreWithinEnds c.self.view_is c.self.invariant.within) (omega arith) (search rules)

pub invariant_of-self : goal.invariant_of-self
invariant_of-self c =
    lost_standing c.args.self.now (the_view c.self-2.inside) c.in-Ok.given_up c.args.cpu.0 c.args.bound.0
    c.self-2.invariant c.in-Ok.ensures.none
    (subst (λ (s : Stream). HasBound c.args.self.now s c.args.cpu.0 c.args.bound.0) (sym c.self-2.view_is)
    c.in-Ok-raise_bound.ensures.raised)
    (ap (λ (s : Stream). s.given_up) c.self-2.view_is ∙ c.in-Ok-raise_bound.ensures.given_up)
    c.in_ok-check_end.ensures.within c.in-Ok.ensures.given_up
