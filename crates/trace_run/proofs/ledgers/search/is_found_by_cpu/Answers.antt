use Rattle.std.proofs.Common.{List, ap, sym, ◌∙◌, subst, arith}
use Rattle.std.specs.Prelude.{Contains}
use Rattle.trace_model.specs.Parcel.{Parcel}
use Rattle.page_numbers.specs.Parcels.{as_parcel, as_parcels}
use Rattle.collector.specs.deliveries.Deliveries.{AreRising}
use Rattle.trace_run.specs.ledgers.Audit.{taken_of}
use Rattle.trace_run.proofs.Flat.{of_all, item_at, in_own, in_none}
use Rattle.trace_run.proofs.ledgers.search.is_found_by_cpu.Goals as goal

pub returns-then-cpu-ledgers : goal.returns-then-cpu-ledgers
returns-then-cpu-ledgers c = (
  λ e. cc,
  λ has.
      absurd
      (in_none c.args.ledgers.now c.requires.own (as_parcel c.args.parcel.now)
      (let is = c.cpu-cpu.ensures.cpu in let past = c.if-cpu-ledgers.true in omega arith) has),
)

pub is_found-requires : goal.is_found-requires
is_found-requires c =
    let ledger = c.index-ledgers-cpu.result in
    let at = item_at c.args.ledgers.now c.cpu-cpu.result.0 ledger c.if-cpu-ledgers.false c.index-ledgers-cpu.is in
    subst AreRising (sym (ap as_parcels c.deref.ensures.value ∙ ap taken_of (sym c.index-ledgers-cpu.is)))
    (c.requires.rising c.cpu-cpu.result.0 ledger at)

pub returns : goal.returns
returns c =
    let ledgers = c.args.ledgers.now in
    let parcel = (as_parcel c.args.parcel.now) in
    let ledger = c.index-ledgers-cpu.result in
    let at = item_at ledgers c.cpu-cpu.result.0 ledger c.if-cpu-ledgers.false c.index-ledgers-cpu.is in
    let own = ap as_parcels c.deref.ensures.value ∙ ap taken_of (sym c.index-ledgers-cpu.is) in (
      λ e.
          of_all ledgers c.cpu-cpu.result.0 ledger parcel at
          (subst (λ (all : List Parcel). Contains all parcel) own (c.is_found.ensures.0 e)),
      λ has.
          c.is_found.ensures.1
          (subst (λ (all : List Parcel). Contains all parcel) (sym own)
          (in_own ledgers c.requires.own c.cpu-cpu.result.0 ledger parcel at (sym c.cpu-cpu.ensures.cpu) has)),
    )
