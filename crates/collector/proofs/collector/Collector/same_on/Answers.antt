use Rattle.std.proofs.Common.{⊎_elim, ◌<◌, subst, arith}
use Rattle.std.proofs.lemmas.Bool.{cases_lt}
use Rattle.collector.specs.Beside.{IsBeside}
use Rattle.collector.proofs.SideBySide.{own_within, same_seen, not_same_seen, alike_same, odds_not_same, one_not_same}
use Rattle.collector.proofs.collector.Collector.same_on.Goals as goal

pub parcel-requires : goal.parcel-requires
parcel-requires c =
    let on = c.beside-both.ensures.goes_on in
    own_within _ _ _ _ _ c.beside-both.ensures c.in-Records.here c.in-Records.there c.in-Records.is (omega arith)

pub returns-in-Some : goal.returns-in-Some
returns-in-Some c =
    let within = c.in-Some.ensures.within in (
      c.in-Some._number,
      not_same_seen _ _ _ _ _ c.beside-both.ensures _ _ _ _ c.in-Records.is c.parcel.ensures c.parcel-in-Records.ensures
          _ within.0 within.1 c.in-Some.ensures.differ,
    )

pub returns-in-AtOdds : goal.returns-in-AtOdds
returns-in-AtOdds c =
    let seen = c.beside-both.ensures in
    let on = seen.goes_on in
    let at = c.loop-at.at in (
      at,
      odds_not_same _ _ _ at seen.agree seen.others_agree
          (subst (IsBeside _ _ _ at) c.in-AtOdds.is (seen.shown at (omega arith) (omega arith))),
    )

pub returns-in-OneKnows : goal.returns-in-OneKnows
returns-in-OneKnows c =
    let on = c.beside-both.ensures.goes_on in (
      c.loop-at.at,
      one_not_same _ _ _ _
          (subst (IsBeside _ _ _ c.loop-at.at) c.in-OneKnows.is
          (c.beside-both.ensures.shown c.loop-at.at (omega arith) (omega arith))),
    )

pub loop-at-preserved-in-Alike : goal.loop-at-preserved-in-Alike
loop-at-preserved-in-Alike c =
    let seen = c.beside-both.ensures in
    λ n lt. ⊎_elim
    (λ (before : n < c.loop-at.at). c.loop-at.invariant n before)
    (λ ge.
    alike_same _ _ _ n seen.agree seen.others_agree (subst (IsBeside _ _ _ n) c.in-Alike.is (seen.shown n ge lt)))
    (cases_lt n c.loop-at.at)

pub loop-at-preserved : goal.loop-at-preserved
loop-at-preserved c = λ n lt. ⊎_elim
    (λ (before : n < c.loop-at.at). c.loop-at.invariant n before)
    (λ ge.
    same_seen _ _ _ _ _ c.beside-both.ensures _ _ _ _ c.in-Records.is c.parcel.ensures c.parcel-in-Records.ensures n
    ge lt (c.in_default.ensures.none n ge lt))
    (cases_lt n c.loop-at.at)
