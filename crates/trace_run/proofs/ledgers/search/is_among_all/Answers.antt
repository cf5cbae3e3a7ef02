use Rattle.std.proofs.Common.{⊎_elim, List, take, refl, sym, ap, subst}
use Rattle.std.specs.Prelude.{Contains}
use Rattle.std.proofs.lemmas.List.{take_all}
use Rattle.std.proofs.lemmas.List.Elements.{Contains-append_cases}
use Rattle.trace_model.specs.Parcel.{Parcel}
use Rattle.page_numbers.specs.Parcels.{as_parcel, as_parcels}
use Rattle.trace_run.specs.declared.ledgers.ledger.Ledger.{Ledger}
use Rattle.trace_run.specs.ledgers.Audit.{taken_of, taken_in}
use Rattle.trace_run.proofs.Flat.{of_all, item_at, ledger_more}
use Rattle.trace_run.proofs.ledgers.search.is_among_all.Goals as goal

pub returns-then-is_among : goal.returns-then-is_among
returns-then-is_among c =
    let ledgers = c.args.ledgers.now in
    let parcel = (as_parcel c.args.parcel.now) in
    let ledger = c.ledger-item.result in
    let at = item_at ledgers c.loop-ledger.ledger-index ledger c.loop-ledger-test.true c.ledger-item.is in (
      λ e.
          of_all ledgers c.loop-ledger.ledger-index ledger parcel at
          (subst (λ (own : List Parcel). Contains own parcel) (ap as_parcels c.deref.ensures.value)
          (c.is_among.ensures.0 c.if-is_among.true)),
      λ has. refl,
    )

pub loop-ledger-preserved : goal.loop-ledger-preserved
loop-ledger-preserved c = λ has.
    let l = c.loop-ledger in
    let ledgers = c.args.ledgers.now in
    let parcel = (as_parcel c.args.parcel.now) in
    let ledger = c.ledger-item.result in
    ⊎_elim l.invariant
    (λ here. let yes =
    c.is_among.ensures.1
    (subst (λ (own : List Parcel). Contains own parcel) (sym (ap as_parcels c.deref.ensures.value)) here) in
    let no = c.if-is_among.false in
    cc)
    (Contains-append_cases (taken_in (take l.ledger-index ledgers)) (taken_of ledger) parcel
    (subst (λ (all : List Parcel). Contains all parcel)
    (ledger_more ledgers l.ledger-index ledger c.loop-ledger-test.true c.ledger-item.is) has))

pub returns : goal.returns
returns c = (
  λ e. cc,
  λ has.
      absurd
      (c.loop-ledger.invariant (subst (λ (l : List Ledger). Contains (taken_in l) (as_parcel c.args.parcel.now))
      (sym (take_all c.loop-ledger.ledger-index c.args.ledgers.now c.loop-ledger-test.false)) has)),
)
