use Rattle.std.proofs.Common.{◌-◌, ◌<◌, ◌≤◌, ⊎_elim, ℕ, Bool, List, rules, arith}
use Rattle.std.proofs.lemmas.Bool.{cases_lt}
use Rattle.trace_model.specs.Parcel.{Parcel}
use Rattle.page_numbers.specs.Parcels.{as_parcel}
use Rattle.collector.specs.Index.{IsIn}
use Rattle.collector.specs.Adding.{FitsAt, IsLookedAt}
use Rattle.collector.proofs.Looking.{shown_kept, shown_missing, shown_none, in_within}
use Rattle.collector.proofs.Adding.{records_clash, record_is_missing, records_known, records_new}
use Rattle.collector.proofs.collector.Collector.look_at_records.Goals as goal

fits_both : (ps : List Parcel) (p : Parcel) (at : ℕ) (grows : Bool)
    → ((n : ℕ) → p.first - p.missed ≤ n → n < p.first → FitsAt ps p p.cpu n) → IsLookedAt ps p p.first at grows
    → (m : ℕ) → p.first - p.missed ≤ m → m < at → FitsAt ps p p.cpu m
fits_both ps p at grows missing seen m low below = ⊎_elim
    (λ (lt : m < p.first). missing m low lt)
    (λ (ge : p.first ≤ m). seen.fits m ge below)
    (cases_lt m p.first)

pub parcel-requires : goal.parcel-requires
parcel-requires c =
    in_within c.args.self.now c.in-Some-Kept.index c.cpu-cpu.result.0 c.loop-at.at
    (shown_kept c.args.self.now c.cpu-cpu.result.0 c.loop-at.at c.in-Some-Kept.index c.stretch-stretch.result.content
    (search rules) c.stretch-stretch.ensures.here)

pub returns-in-Some-clause-fault : goal.returns-in-Some-clause-fault
returns-in-Some-clause-fault c =
    let ps = c.args.self.now in
    let p = as_parcel c.args.parcel.now in
    let cpu = c.cpu-cpu.result.0 in
    let at = c.loop-at.at in
    let i = c.in-Some-Kept.index in
    let n = c.in-Some.number in
    let stretch = c.stretch-stretch in
    let shown : (m : ℕ) → at ≤ m → m < c.min-until.result → IsIn ps i cpu m =
    λ m a b.
    shown_kept ps cpu m i stretch.result.content (search rules) (stretch.ensures.shown m a (omega arith)) in
    let within = c.in-Some.ensures.within in
    let q = as_parcel c.parcel.result.now in
    let q_is = c.parcel.ensures in
    let seen =
    records_known ps p q i cpu at n c.loop-at.grows c.cpu-cpu.ensures.cpu stretch.ensures.agree q_is
    c.loop-at.invariant.from c.loop-at.invariant.seen
    (λ m a b. shown m a (omega arith)) c.in-Some.ensures.first in
    records_clash ps p q i cpu n c.cpu-cpu.ensures.cpu stretch.ensures.agree (shown n within.0 within.1) q_is
    (omega arith) (omega arith)
    c.in-Some.ensures.differ (fits_both ps p n c.loop-at.grows c.requires seen)

pub returns-in-Some-Missing-clause-fault : goal.returns-in-Some-Missing-clause-fault
returns-in-Some-Missing-clause-fault c =
    record_is_missing c.args.self.now (as_parcel c.args.parcel.now) c.cpu-cpu.result.0 c.loop-at.at
    c.cpu-cpu.ensures.cpu c.stretch-stretch.ensures.agree
    (shown_missing c.args.self.now c.cpu-cpu.result.0 c.loop-at.at c.stretch-stretch.result.content (search rules)
    c.stretch-stretch.ensures.here)
    c.loop-at.invariant.from (omega arith)
    (fits_both c.args.self.now (as_parcel c.args.parcel.now) c.loop-at.at c.loop-at.grows c.requires
    c.loop-at.invariant.seen)

pub loop-at-preserved-in_default : goal.loop-at-preserved-in_default
loop-at-preserved-in_default c =
    let ps = c.args.self.now in
    let p = as_parcel c.args.parcel.now in
    let cpu = c.cpu-cpu.result.0 in
    let at = c.loop-at.at in
    let i = c.in-Some-Kept.index in
    let stretch = c.stretch-stretch in
    let shown : (m : ℕ) → at ≤ m → m < c.min-until.result → IsIn ps i cpu m =
    λ m a b.
    shown_kept ps cpu m i stretch.result.content (search rules) (stretch.ensures.shown m a (omega arith)) in
    let q = as_parcel c.parcel.result.now in
    let q_is = c.parcel.ensures in
    record {
      from = omega arith;
      up_to = omega arith;
      seen =
          records_known ps p q i cpu at c.min-until.result c.loop-at.grows c.cpu-cpu.ensures.cpu stretch.ensures.agree
          q_is c.loop-at.invariant.from c.loop-at.invariant.seen
          shown c.in_default.ensures.none;
    }

pub loop-at-preserved : goal.loop-at-preserved
loop-at-preserved c =
    let ps = c.args.self.now in
    let stretch = c.stretch-stretch in
    record {
      from = omega arith;
      up_to = omega arith;
      seen =
          records_new ps (as_parcel c.args.parcel.now) c.cpu-cpu.result.0 c.loop-at.at c.min-until.result
          c.loop-at.grows c.cpu-cpu.ensures.cpu c.loop-at.invariant.from (omega arith) (omega arith)
          c.loop-at.invariant.seen
          (λ n a b.
          shown_none ps c.cpu-cpu.result.0 n stretch.result.content (search rules)
          (stretch.ensures.shown n a (omega arith)));
    }
