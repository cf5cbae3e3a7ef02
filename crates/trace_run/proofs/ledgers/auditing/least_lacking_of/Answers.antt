use Rattle.std.proofs.Common.{List, [], ◌∷◌, ◌++◌, ◌+◌, take, Option, sym, subst}
use Rattle.trace_model.specs.Parcel.{Parcel}
use Rattle.trace_model.specs.Collection.{IsBelow}
use Rattle.page_numbers.specs.Parcels.{as_parcel, as_parcels}
use Rattle.page_numbers.proofs.AsParcels.{within_all, parcel_of_all, take_all_of}
use Rattle.trace_run.specs.declared.ledgers.least.ParcelKey.{ParcelKey}
use Rattle.trace_run.specs.ledgers.Least.{IsLeastFault}
use Rattle.trace_run.proofs.LeastFaults.{good_at, bad_at}
use Rattle.trace_run.proofs.ledgers.auditing.least_lacking_of.Goals as goal
use Rattle.trace_run.proofs.ledgers.auditing.least_lacking_of.Goals.{then-not-holds, else-not-holds}

pub loop-parcel-preserved : goal.loop-parcel-preserved
loop-parcel-preserved c = λ these start.
    let l = c.loop-parcel in
    let good : Parcel → Type 0 = λ parcel. IsBelow (parcel ∷ []) c.args.collector.now in
    elim c.if-not-holds.branch [
      | then-not-holds w ↦ subst
          (λ (found : Option ParcelKey).
          IsLeastFault (these ++ take (l.parcel-index + 1) (as_parcels c.args.taken.now)) good found)
          (sym w.found-is)
          (bad_at good these (as_parcels c.args.taken.now) l.parcel-index (as_parcel c.parcel-item.result) l.found
          w.least.result (within_all c.args.taken.now l.parcel-index c.loop-parcel-test.true)
          (parcel_of_all c.args.taken.now l.parcel-index c.parcel-item.result c.loop-parcel-test.true c.parcel-item.is)
          (λ held. let yes = c.holds.ensures.1 held in let no = w.if-not-holds.true in cc) (l.invariant these start)
          w.least.ensures)
      | else-not-holds w ↦ subst
          (λ (found : Option ParcelKey).
          IsLeastFault (these ++ take (l.parcel-index + 1) (as_parcels c.args.taken.now)) good found)
          (sym w.found-is)
          (good_at good these (as_parcels c.args.taken.now) l.parcel-index (as_parcel c.parcel-item.result) l.found
          (within_all c.args.taken.now l.parcel-index c.loop-parcel-test.true)
          (parcel_of_all c.args.taken.now l.parcel-index c.parcel-item.result c.loop-parcel-test.true c.parcel-item.is)
          (c.holds.ensures.0 (let yes = w.if-not-holds.false in cc)) (l.invariant these start))
    ]

pub returns : goal.returns
returns c = λ these start.
    let good : Parcel → Type 0 = λ parcel. IsBelow (parcel ∷ []) c.args.collector.now in
    subst (λ (l : List Parcel). IsLeastFault (these ++ l) good c.loop-parcel.found)
    (take_all_of c.args.taken.now c.loop-parcel.parcel-index c.loop-parcel-test.false)
    (c.loop-parcel.invariant these start)
