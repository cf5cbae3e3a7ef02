use Rattle.std.proofs.Common.{◌<◌, [], ◌∷◌, length, refl, arith}
use Rattle.trace_model.proofs.collections.Joined.{joined_left}
use Rattle.trace_model.proofs.collections.Collections.{below_below}
use Rattle.page_numbers.specs.Parcels.{as_parcel}
use Rattle.page_numbers.proofs.AsParcels.{parcel_is, as_many}
use Rattle.collector.proofs.Merging.{taken_below, all_below, one_below}
use Rattle.collector.proofs.collector.Collector.holds_all.Goals as goal

pub loop-parcel-init : goal.loop-parcel-init
loop-parcel-init c = joined_left [] c.args.self.now

pub loop-parcel-preserved : goal.loop-parcel-preserved
loop-parcel-preserved c =
    let qs = c.args.other.now in
    let q = as_parcel c.parcel-item.result in
    let items = c.parcels-parcel-items.ensures.parcels in
    let within : c.loop-parcel.parcel-index < length qs = let many = as_many _ qs items in omega arith in
    taken_below c.args.self.now qs c.loop-parcel.parcel-index q within
    (parcel_is _ qs c.loop-parcel.parcel-index c.parcel-item.result items within c.parcel-item.is)
    c.loop-parcel.invariant (c.holds.ensures.0 c.if-not-holds.false)

pub returns-then-not-holds : goal.returns-then-not-holds
returns-then-not-holds c =
    let qs = c.args.other.now in
    let q = as_parcel c.parcel-item.result in
    let items = c.parcels-parcel-items.ensures.parcels in
    let within : c.loop-parcel.parcel-index < length qs = let many = as_many _ qs items in omega arith in
    let one = one_below qs c.loop-parcel.parcel-index q within
    (parcel_is _ qs c.loop-parcel.parcel-index c.parcel-item.result items within c.parcel-item.is) in (
      λ held. cc,
      λ below. let held = c.holds.ensures.1 (below_below (q ∷ []) qs c.args.self.now one below) in
          let not = c.if-not-holds.true in cc,
    )

pub returns : goal.returns
returns c = (
  λ held. all_below c.args.self.now c.args.other.now c.loop-parcel.parcel-index
      (let many = as_many _ c.args.other.now c.parcels-parcel-items.ensures.parcels in omega arith)
      c.loop-parcel.invariant,
  λ below. refl,
)
