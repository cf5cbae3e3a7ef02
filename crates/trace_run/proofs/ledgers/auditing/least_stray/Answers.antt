use Rattle.std.proofs.Common.{◌+◌, List, [], take, Option, sym, subst}
use Rattle.std.specs.Prelude.{Contains}
use Rattle.trace_model.specs.Parcel.{Parcel}
use Rattle.page_numbers.specs.Parcels.{as_parcel, as_parcels}
use Rattle.page_numbers.proofs.AsParcels.{within_all, parcel_of_all, take_all_of}
use Rattle.trace_run.specs.declared.ledgers.least.ParcelKey.{ParcelKey}
use Rattle.trace_run.specs.ledgers.Audit.{taken_in}
use Rattle.trace_run.specs.ledgers.Least.{IsLeastFault}
use Rattle.trace_run.proofs.LeastFaults.{good_at, bad_at}
use Rattle.trace_run.proofs.ledgers.auditing.least_stray.Goals as goal
use Rattle.trace_run.proofs.ledgers.auditing.least_stray.Goals.{then-not-is_taken, else-not-is_taken}

pub loop-parcel-preserved : goal.loop-parcel-preserved
loop-parcel-preserved c =
    let l = c.loop-parcel in
    let good : Parcel → Type 0 = Contains (taken_in c.args.ledgers.now) in
    elim c.if-not-is_taken.branch [
      | then-not-is_taken w ↦ subst
          (λ (found : Option ParcelKey).
          IsLeastFault (take (l.parcel-index + 1) (as_parcels c.args.kept.now)) good found) (sym w.found-is)
          (bad_at good [] (as_parcels c.args.kept.now) l.parcel-index (as_parcel c.parcel-item.result) l.found
          w.least.result (within_all c.args.kept.now l.parcel-index c.loop-parcel-test.true)
          (parcel_of_all c.args.kept.now l.parcel-index c.parcel-item.result c.loop-parcel-test.true c.parcel-item.is)
          (λ taken. let yes = c.is_taken.ensures.1 taken in let no = w.if-not-is_taken.true in cc) l.invariant
          w.least.ensures)
      | else-not-is_taken w ↦ subst
          (λ (found : Option ParcelKey).
          IsLeastFault (take (l.parcel-index + 1) (as_parcels c.args.kept.now)) good found) (sym w.found-is)
          (good_at good [] (as_parcels c.args.kept.now) l.parcel-index (as_parcel c.parcel-item.result) l.found
          (within_all c.args.kept.now l.parcel-index c.loop-parcel-test.true)
          (parcel_of_all c.args.kept.now l.parcel-index c.parcel-item.result c.loop-parcel-test.true c.parcel-item.is)
          (c.is_taken.ensures.0 (let yes = w.if-not-is_taken.false in cc)) l.invariant)
    ]

pub returns : goal.returns
returns c =
    subst (λ (l : List Parcel). IsLeastFault l (Contains (taken_in c.args.ledgers.now)) c.loop-parcel.found)
    (take_all_of c.args.kept.now c.loop-parcel.parcel-index c.loop-parcel-test.false) c.loop-parcel.invariant
