use Rattle.std.proofs.Common.{ℕ, List, inr, sym, ap, ◌∙◌, subst}
use Rattle.trace_model.specs.Collection.{IsSame}
use Rattle.collector.specs.Known.{without_ended}
use Rattle.stream_collector.specs.declared.marks.Marks.{Marks}
use Rattle.stream_collector.specs.Marks.{marks_at, bounds_of, AllSaySomething}
use Rattle.stream_collector.specs.Stream.{Stream}
use Rattle.stream_collector.specs.Marking.{IsStanding}
use Rattle.stream_collector.proofs.Frontiers.{cut_everywhere, cuts_raise, cuts_standing}
use Rattle.stream_collector.proofs.stream.StreamCollector.forget_before.Goals as goal

pub put_cuts-requires-clause-so_far : goal.put_cuts-requires-clause-so_far
put_cuts-requires-clause-so_far c cpu = inr (ap (λ (ms : List (ℕ × Marks)). marks_at ms cpu)
    (c.in_ok-marks.ensures ∙ ap (λ (s : Stream). s.marks) c.self.view_is))

pub put_cuts-requires-clause-says : goal.put_cuts-requires-clause-says
put_cuts-requires-clause-says c = subst AllSaySomething (sym c.in_ok-marks.ensures) c.self.invariant.says

pub invariant_of-self : goal.invariant_of-self
invariant_of-self c =
    let s = c.args.self.now in
    let marks = c.put_cuts-2.new.marks.cpus.entries in
    let new : Stream = record { parcels = c.in_ok-known.known; marks = marks; given_up = c.self.inside.given_up } in
    let cuts = cut_everywhere s c.args.moment.0 marks c.in_ok-put_cuts-2.ensures.so_far
    (λ cpu known. c.in_ok-put_cuts-2.ensures.stay cpu
    (c.in_ok-put_cuts.ensures.all cpu ((c.known_cpus.ensures.known cpu).1 known)))
    (λ cpu given_up. c.in_ok-put_cuts-2.ensures.all cpu ((c.given_up_cpus.ensures.known cpu).1 given_up)) in
    cuts_standing s new c.args.moment.0 (subst IsStanding c.self.view_is c.self.invariant) cuts
    (subst (λ (s : Stream). IsSame c.in_ok-known.known (without_ended (bounds_of marks) s.parcels)) c.self.view_is
    c.in_ok-known.ensures)
    (ap (λ (s : Stream). s.given_up) c.self.view_is) c.in_ok-put_cuts-2.ensures.says

pub returns-clause-forgotten : goal.returns-clause-forgotten
returns-clause-forgotten c =
    let s = c.args.self.now in
    let marks = c.put_cuts-2.new.marks.cpus.entries in
    let new : Stream = record { parcels = c.in_ok-known.known; marks = marks; given_up = c.self.inside.given_up } in
    let cuts = cut_everywhere s c.args.moment.0 marks c.in_ok-put_cuts-2.ensures.so_far
    (λ cpu known. c.in_ok-put_cuts-2.ensures.stay cpu
    (c.in_ok-put_cuts.ensures.all cpu ((c.known_cpus.ensures.known cpu).1 known)))
    (λ cpu given_up. c.in_ok-put_cuts-2.ensures.all cpu ((c.given_up_cpus.ensures.known cpu).1 given_up)) in
    record {
      cuts = λ cpu. (cuts cpu).0;
      raised = cuts_raise s new c.args.moment.0 cuts
          (subst (λ (s : Stream). IsSame c.in_ok-known.known (without_ended (bounds_of marks) s.parcels))
          c.self.view_is c.in_ok-known.ensures);
      given_up = ap (λ (s : Stream). s.given_up) c.self.view_is;
    }
