use Rattle.std.proofs.Common.{List, rules, sym, subst}
use Rattle.trace_model.specs.Parcel.{Parcel}
use Rattle.stream_collector.specs.Stream.{Stream, IsUpToEnd}
use Rattle.stream_collector.specs.Marking.{IsStanding}
use Rattle.stream_collector.specs.contracts.stream.StreamCollector.{the_view}
use Rattle.stream_collector.proofs.WithinEnds.{run_standing}
use Rattle.stream_collector.specs.GivenUp.{AllGivenUp}
use Rattle.stream_collector.proofs.stream.StreamCollector.mark_undelivered.Goals as goal
use Rattle.stream_collector.proofs.stream.StreamCollector.mark_undelivered.Goals.{in-Ok-true, in-Ok-false, in-Err}

pub returns-clause-new_exactly : goal.returns-clause-new_exactly
returns-clause-new_exactly c e all =
    elim c.match-give_up_run.branch [
      | in-Ok-true w ↦ let known = w.in-Ok-true.ensures.known.1
          (subst (λ (s : Stream). AllGivenUp s.given_up c.args.cpu.0 c.args.first.0 c.args.end.0)
          (sym c.self.view_is) all) in cc
      | in-Ok-false w ↦ let is = w.result-is in cc
      | in-Err w ↦ let is = w.result-is in cc
    ]

pub invariant_of-self : goal.invariant_of-self
invariant_of-self c =
    let old = the_view c.self.inside in
    let up : IsUpToEnd old c.args.cpu.0 c.args.end.0 = search rules in
    elim c.match-give_up_run.branch [
      | in-Ok-true w ↦ run_standing old c.give_up_run.new.given_up c.args.cpu.0 c.args.first.0 c.args.end.0
          c.self.invariant c.give_up_run.ensures.none w.in-Ok-true.ensures.given_up up
      | in-Ok-false w ↦ run_standing old c.give_up_run.new.given_up c.args.cpu.0 c.args.first.0 c.args.end.0
          c.self.invariant c.give_up_run.ensures.none w.in-Ok-false.ensures.given_up up
      | in-Err w ↦ subst (λ (ps : List Parcel). IsStanding record old { given_up = ps }) (sym w.in-Err.ensures.refused)
          c.self.invariant
    ]
