use Rattle.std.proofs.Common.{◌∷◌, [], ◌++◌, ⊎_elim, List, take, sym, ap, ◌∙◌, subst}
use Rattle.std.specs.Prelude.{Contains}
use Rattle.std.proofs.lemmas.List.{take_more}
use Rattle.std.proofs.lemmas.List.Elements.{Contains-push_cases}
use Rattle.trace_model.specs.Parcel.{Parcel}
use Rattle.page_numbers.specs.Parcels.{as_parcel, as_parcels}
use Rattle.page_numbers.proofs.AsParcels.{within_all, parcel_of_all, take_all_of}
use Rattle.trace_run.proofs.ledgers.search.is_among.Goals as goal

pub loop-other-preserved : goal.loop-other-preserved
loop-other-preserved c = λ has.
    let i = c.loop-other.other-index in
    let kept = c.args.parcels.now in
    let all : List Parcel = as_parcels kept in
    let other = as_parcel c.other-item.result in
    let parcel = as_parcel c.args.parcel.now in
    let here = parcel_of_all kept i c.other-item.result c.loop-other-test.true c.other-item.is in
    let more =
    take_more all i other (within_all kept i c.loop-other-test.true)
    ∙ ap (λ (q : Parcel). take i all ++ q ∷ []) (sym here) in
    ⊎_elim c.loop-other.invariant
    (λ is. let yes = c.are_equal.ensures.1 (sym is) in let no = c.if-are_equal.false in cc)
    (Contains-push_cases (take i all) other parcel (subst (λ (l : List Parcel). Contains l parcel) more has))

pub returns : goal.returns
returns c = (
  λ e. cc,
  λ has.
      absurd
      (c.loop-other.invariant (subst (λ (l : List Parcel). Contains l (as_parcel c.args.parcel.now))
      (sym (take_all_of c.args.parcels.now c.loop-other.other-index c.loop-other-test.false)) has)),
)
