use Rattle.std.proofs.Common.{List, [], ◌∷◌, ◌++◌, take, ap, sym, ◌∙◌, subst}
use Rattle.std.proofs.lemmas.List.{take_all}
use Rattle.trace_model.specs.Parcel.{Parcel}
use Rattle.trace_model.specs.Collection.{IsBelow}
use Rattle.page_numbers.specs.Parcels.{as_parcels}
use Rattle.trace_run.specs.declared.ledgers.ledger.Ledger.{Ledger}
use Rattle.trace_run.specs.ledgers.Audit.{taken_in}
use Rattle.trace_run.specs.ledgers.Least.{IsLeastFault}
use Rattle.trace_run.proofs.Flat.{ledger_more}
use Rattle.trace_run.proofs.ledgers.auditing.least_lacking.Goals as goal

pub loop-ledger-preserved : goal.loop-ledger-preserved
loop-ledger-preserved c =
    let l = c.loop-ledger in let ledgers = c.args.ledgers.now in
    let before : List Parcel = taken_in (take l.ledger-index ledgers) in
    subst (λ (these : List Parcel).
    IsLeastFault these (λ parcel. IsBelow (parcel ∷ []) c.args.collector.now) c.least_lacking_of-found.result)
    (ap (λ (own : List Parcel). before ++ own) (ap as_parcels c.deref.ensures.value)
    ∙ sym (ledger_more ledgers l.ledger-index c.ledger-item.result c.loop-ledger-test.true c.ledger-item.is))
    (c.least_lacking_of-found.ensures before l.invariant)

pub returns : goal.returns
returns c =
    subst
    (λ (l : List Ledger).
    IsLeastFault (taken_in l) (λ parcel. IsBelow (parcel ∷ []) c.args.collector.now) c.loop-ledger.found)
    (take_all c.loop-ledger.ledger-index c.args.ledgers.now c.loop-ledger-test.false) c.loop-ledger.invariant
