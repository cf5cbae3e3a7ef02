use Rattle.std.proofs.Common.{⊎_elim, ◌<◌, ◌≤◌, subst, arith}
use Rattle.std.proofs.lemmas.Bool.{cases_lt}
use Rattle.collector.specs.Beside.{IsBeside}
use Rattle.collector.proofs.SideBySide.{own_within, clash_seen, fit_seen, odds_taken, alike_fit, one_fit, front_fits}
use Rattle.collector.proofs.SideBySide.{fit_up_to}
use Rattle.collector.proofs.collector.Collector.look_at_cpu.Goals as goal

pub parcel-requires : goal.parcel-requires
parcel-requires c =
    let seen = c.beside_known-both.ensures.seen in
    let on = seen.goes_on in
    own_within _ _ _ _ _ seen c.in-Records.here c.in-Records.there c.in-Records.is (omega arith)

pub returns-in-Some-clause-fault : goal.returns-in-Some-clause-fault
returns-in-Some-clause-fault c =
    let seen = c.beside_known-both.ensures.seen in
    let at = c.loop-at.at in
    let within = c.in-Some.ensures.within in (
      clash_seen _ _ _ _ _ seen _ _ _ _ c.in-Records.is c.parcel.ensures c.parcel-in-Records.ensures _ within.0 within.1
          c.in-Some.ensures.differ,
      front_fits _ _ _ _ c.parcels-kept.ensures.sound seen.agree seen.others_agree c.requires
          (λ m lt. ⊎_elim
          (λ (before : m < at). c.loop-at.invariant m before)
          (λ (ge : at ≤ m).
          fit_seen _ _ _ _ _ seen _ _ _ _ c.in-Records.is c.parcel.ensures c.parcel-in-Records.ensures m ge
          (omega arith) (c.in-Some.ensures.first m ge lt))
          (cases_lt m at)),
    )

pub returns-in-AtOdds-clause-fault : goal.returns-in-AtOdds-clause-fault
returns-in-AtOdds-clause-fault c =
    let seen = c.beside_known-both.ensures.seen in
    let on = seen.goes_on in
    let at = c.loop-at.at in (
      odds_taken _ _ _ at (subst (IsBeside _ _ _ at) c.in-AtOdds.is (seen.shown at (omega arith) (omega arith))),
      front_fits _ _ _ at c.parcels-kept.ensures.sound seen.agree seen.others_agree c.requires c.loop-at.invariant,
    )

pub loop-at-preserved-in_default : goal.loop-at-preserved-in_default
loop-at-preserved-in_default c =
    let both = c.beside_known-both in
    fit_up_to _ _ _ _ both.result.end both.result.next c.loop-at.invariant
    (λ n ge lt.
    fit_seen _ _ _ _ _ both.ensures.seen _ _ _ _ c.in-Records.is c.parcel.ensures c.parcel-in-Records.ensures n ge
    lt (c.in_default.ensures.none n ge lt))
    both.ensures.unknown

pub loop-at-preserved-in-Alike : goal.loop-at-preserved-in-Alike
loop-at-preserved-in-Alike c =
    let both = c.beside_known-both in
    let seen = both.ensures.seen in
    fit_up_to _ _ _ _ both.result.end both.result.next c.loop-at.invariant
    (λ n ge lt.
    alike_fit _ _ _ n seen.agree seen.others_agree (subst (IsBeside _ _ _ n) c.in-Alike.is (seen.shown n ge lt)))
    both.ensures.unknown

pub loop-at-preserved : goal.loop-at-preserved
loop-at-preserved c =
    let both = c.beside_known-both in
    fit_up_to _ _ _ _ both.result.end both.result.next c.loop-at.invariant
    (λ n ge lt. one_fit _ _ _ n (subst (IsBeside _ _ _ n) c.in-OneKnows.is (both.ensures.seen.shown n ge lt)))
    both.ensures.unknown
