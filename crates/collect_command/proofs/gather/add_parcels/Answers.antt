use Rattle.std.proofs.Common.{◌≡◌, ◌+◌, ◌++◌, [], ◌∷◌, List, take, ◌∙◌, ap, sym, subst}
use Rattle.std.proofs.lemmas.List.{take_more}
use Rattle.trace_model.specs.Collection.{IsSame}
use Rattle.page_numbers.specs.Parcels.{ParcelValue, as_parcels}
use Rattle.collect_command.proofs.Gathered.{same_more, next_agrees}
use Rattle.collect_command.proofs.gather.add_parcels.Goals as goal

pub collect-requires : goal.collect-requires
collect-requires c =
    let k = c.loop-parcel.parcel-index in
    let ps = c.args.parcels.now in
    let item = c.parcel-item.result in
    let more : take k ps ++ item ∷ [] ≡ take (k + 1) ps =
    ap (λ (x : ParcelValue). take k ps ++ x ∷ []) c.parcel-item.is
    ∙ sym (take_more ps k item c.loop-parcel-test.true) in
    next_agrees c.args.collector.now c.loop-parcel.collector ps k item c.loop-parcel.invariant more c.requires

pub loop-parcel-preserved : goal.loop-parcel-preserved
loop-parcel-preserved c =
    let k = c.loop-parcel.parcel-index in
    let ps = c.args.parcels.now in
    let item = c.parcel-item.result in
    let more : take k ps ++ item ∷ [] ≡ take (k + 1) ps =
    ap (λ (x : ParcelValue). take k ps ++ x ∷ []) c.parcel-item.is
    ∙ sym (take_more ps k item c.loop-parcel-test.true) in
    subst (λ (xs : List ParcelValue). IsSame c.collect.new.collector (c.args.collector.now ++ as_parcels xs)) more
    (same_more c.args.collector.now c.loop-parcel.collector c.collect.new.collector (take k ps) item
    c.in_ok-collect.field-0 c.loop-parcel.invariant c.in_ok-collect.ensures.added)
