use Rattle.std.proofs.Common.{◌<◌, ⊎_elim, subst, arith}
use Rattle.std.proofs.lemmas.Bool.{cases_lt}
use Rattle.collector.specs.Known.{IsKnown}
use Rattle.stream_collector.specs.Stream.{Stream, HaveNoRecord}
use Rattle.stream_collector.specs.Marking.{AreWithinEnds}
use Rattle.stream_collector.proofs.WithinEnds.{accounted_within}
use Rattle.stream_collector.proofs.Standing.{known_accounted, given_up_accounted, known_missed}
use Rattle.stream_collector.proofs.stream.StreamCollector.watermark.Goals as goal

pub returns-then-eq-clause-accounted : goal.returns-then-eq-clause-accounted
returns-then-eq-clause-accounted c n from below = ⊎_elim
    (λ (before : n < c.loop-self.at.0). c.loop-self.invariant.accounted n from before)
    (λ at. known_accounted c.args.self.now c.args.cpu.0 n from
    (subst (λ (s : Stream). IsKnown s.parcels c.args.cpu.0 n) c.self.view_is
    (c.first_unknown-unknown.ensures.first n at below)))
    (cases_lt n c.loop-self.at.0)

pub returns-then-eq-clause-within : goal.returns-then-eq-clause-within
returns-then-eq-clause-within c = accounted_within c.args.self.now c.args.cpu.0 c.first_unknown-unknown.result.0
    (subst AreWithinEnds c.self.view_is c.self.invariant.within)
    (let a = c.loop-self.invariant.from in let b = c.first_unknown-unknown.ensures.from in omega arith)
    (returns-then-eq-clause-accounted c)

pub loop-self-preserved : goal.loop-self-preserved
loop-self-preserved c = record {
  from = let a = c.loop-self.invariant.from in let b = c.first_unknown-unknown.ensures.from in
      let d = c.first_unknown-kept_up.ensures.from in omega arith;
  accounted = λ n from below. ⊎_elim
      (λ (before : n < c.first_unknown-unknown.result.0). ⊎_elim
      (λ (early : n < c.loop-self.at.0). c.loop-self.invariant.accounted n from early)
      (λ at. known_accounted c.args.self.now c.args.cpu.0 n from
      (subst (λ (s : Stream). IsKnown s.parcels c.args.cpu.0 n) c.self.view_is
      (c.first_unknown-unknown.ensures.first n at before)))
      (cases_lt n c.loop-self.at.0))
      (λ at. given_up_accounted c.args.self.now c.args.cpu.0 n from
      (known_missed c.args.self.now.given_up c.args.cpu.0 n
      (subst (λ (s : Stream). HaveNoRecord s.given_up) c.self.view_is c.self.invariant.no_record)
      (subst (λ (s : Stream). IsKnown s.given_up c.args.cpu.0 n) c.self.view_is
      (c.first_unknown-kept_up.ensures.first n at below))))
      (cases_lt n c.first_unknown-unknown.result.0);
}
