use Rattle.std.proofs.Common.{◌≡◌, ◌<◌, length, take, get_or, Ok, sym, ap, ◌∙◌, subst, rules, arith}
use Rattle.trace_model.specs.Parcel.{Parcel}
use Rattle.page_numbers.specs.Parcels.{as_parcel}
use Rattle.page_numbers.proofs.AsParcels.{parcel_is, as_many}
use Rattle.collector.proofs.Merging.{next_same, kept_behind, next_merged, same_least, merged_goes_back}
use Rattle.collector.proofs.collector.Collector.add_all.Goals as goal

pub loop-parcel-preserved : goal.loop-parcel-preserved
loop-parcel-preserved c =
    let ps = c.args.self.now in
    let qs = c.args.other.now in
    let q = as_parcel c.in_ok-share.field-0 in
    let item = as_parcel c.parcel-item.result in
    let k = c.loop-parcel.parcel-index in
    let items = c.parcels-parcel-items.ensures.parcels in
    let within : k < length qs = let many = as_many _ qs items in omega arith in
    let item_is : item ≡ get_or qs k item = parcel_is _ qs k c.parcel-item.result items within c.parcel-item.is in
    let q_is : q ≡ get_or qs k q =
    subst (λ (z : Parcel). z ≡ get_or qs k z) (ap as_parcel (sym c.in_ok-share.ensures)) item_is in
    record {
      same =
          next_same ps qs c.loop-parcel.self c.add.new.self k q within q_is c.loop-parcel.invariant.same
          c.in_ok-add.ensures.union;
      kept = next_merged ps qs c.loop-parcel.self c.add.new.self k q within q_is c.loop-parcel.invariant.kept
          (kept_behind c.loop-parcel.self c.add.new.self q c.in_ok-add.field-0
          (λ e. c.add.ensures.new (c.in_ok-add.was ∙ ap Ok e)) (λ e. c.add.ensures.known (c.in_ok-add.was ∙ ap Ok e))
          c.in_ok-add.ensures.known_exactly);
    }

pub returns-clause-join : goal.returns-clause-join
returns-clause-join c = same_least c.args.self.now c.args.other.now c.loop-parcel.self c.loop-parcel.parcel-index
    (let many = as_many _ c.args.other.now c.parcels-parcel-items.ensures.parcels in omega arith) c.requires
    c.loop-parcel.invariant.same

pub returns-in_err-share-clause-refused : goal.returns-in_err-share-clause-refused
returns-in_err-share-clause-refused c =
    let back =
    merged_goes_back c.args.self.now (take c.loop-parcel.parcel-index c.args.other.now) c.loop-parcel.self
    c.loop-parcel.invariant.kept in
    search rules

pub returns-in_err-add-clause-refused : goal.returns-in_err-add-clause-refused
returns-in_err-add-clause-refused c =
    let back = ap (take (length c.args.self.now)) c.in_err-add.ensures.refused
    ∙ merged_goes_back c.args.self.now (take c.loop-parcel.parcel-index c.args.other.now) c.loop-parcel.self
    c.loop-parcel.invariant.kept in
    search rules
