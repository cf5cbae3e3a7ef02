use Rattle.std.proofs.Common.{ℕ, List, ◌∙◌, sym, ap, subst}
use Rattle.trace_model.specs.Collection.{IsSame}
use Rattle.collector.specs.Known.{without_ended}
use Rattle.stream_collector.specs.declared.marks.Marks.{Marks}
use Rattle.stream_collector.specs.Marks.{marks_at, bounds_of, AllSaySomething}
use Rattle.stream_collector.specs.Stream.{Stream}
use Rattle.stream_collector.specs.Marking.{IsStanding}
use Rattle.stream_collector.specs.Forgetting.{HasBound}
use Rattle.stream_collector.proofs.WithinEnds.{raised_standing}
use Rattle.stream_collector.proofs.stream.StreamCollector.raise_bound.Goals as goal

pub invariant_of-self : goal.invariant_of-self
invariant_of-self c =
    let old = c.args.self.now in
    let marks = c.set.new.self.cpus.entries in
    let new : Stream = record { parcels = c.in_ok-known.known; marks = marks; given_up = c.self.inside.given_up } in
    let own = ap (λ (s : Stream). s.marks) c.self.view_is in
    let raised : HasBound old new c.args.cpu.0 c.args.bound = record {
      marks = c.in_ok-set.ensures.here
          ∙ ap (λ (m : Marks). record { bound = c.args.bound; end = m.end }) c.marks-own.ensures;
      others = λ other apart. c.in_ok-set.ensures.others other apart
          ∙ ap (λ (ms : List (ℕ × Marks)). marks_at ms other) (c.in_ok-marks.ensures ∙ own);
      kept = subst (λ (s : Stream). IsSame c.in_ok-known.known (without_ended (bounds_of marks) s.parcels))
          c.self.view_is c.in_ok-known.ensures;
    } in
    raised_standing old new c.args.cpu.0 c.args.bound (subst IsStanding c.self.view_is c.self.invariant) raised
    (ap (λ (s : Stream). s.given_up) c.self.view_is) c.requires.within
    (c.in_ok-set.ensures.says (subst AllSaySomething (sym c.in_ok-marks.ensures) c.self.invariant.says))
