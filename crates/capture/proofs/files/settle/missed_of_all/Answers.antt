use Rattle.std.proofs.Common.{◌+◌, ap, ◌∙◌, arith}
use Rattle.page_numbers.specs.Parcels.{ParcelValue}
use Rattle.std.proofs.lemmas.List.{take_all}
use Rattle.capture.specs.files.Losses.{missed_in}
use Rattle.capture.proofs.LossSums.{missed-next, missed-within}
use Rattle.capture.proofs.files.settle.missed_of_all.Goals as goal

pub overflow_add-total : goal.overflow_add-total
overflow_add-total c =
    let next = missed-next c.args.parcels.now c.loop-parcel.parcel-index c.parcel-item.result c.loop-parcel-test.true in
    let item = ap (λ (p : ParcelValue). p.missed) c.parcel-item.is in
    omega (
      arith,
      next,
      item,
      missed-within c.args.parcels.now (c.loop-parcel.parcel-index + 1),
      c.missed-total.ensures.missed,
      c.loop-parcel.invariant,
      c.requires,
    )

pub loop-parcel-preserved : goal.loop-parcel-preserved
loop-parcel-preserved c =
    let next = missed-next c.args.parcels.now c.loop-parcel.parcel-index c.parcel-item.result c.loop-parcel-test.true in
    let item = ap (λ (p : ParcelValue). p.missed) c.parcel-item.is in
    omega (arith, next, item, c.missed-total.ensures.missed, c.loop-parcel.invariant)

pub returns : goal.returns
returns c =
    c.loop-parcel.invariant
    ∙ ap missed_in (take_all c.loop-parcel.parcel-index c.args.parcels.now c.loop-parcel-test.false)
