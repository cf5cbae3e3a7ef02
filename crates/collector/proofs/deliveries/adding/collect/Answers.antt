use Rattle.std.proofs.Common.{[], ◌∷◌, ◌++◌, subst}
use Rattle.page_numbers.specs.Parcels.{ParcelValue, as_parcel}
use Rattle.collector.specs.Faults.{IsAddFault}
use Rattle.collector.proofs.Delivered.{only_memory}
use Rattle.collector.proofs.deliveries.adding.collect.Goals as goal

pub refused-requires : goal.refused-requires
refused-requires c = only_memory (c.args.collector.now ++ as_parcel c.args.parcel.now ∷ []) c.in-Err.fault c.requires
    (subst (λ (q : ParcelValue). IsAddFault (c.args.collector.now ++ as_parcel q ∷ []) c.in-Err.fault)
    c.in_ok-share.ensures c.in-Err.ensures.fault)
