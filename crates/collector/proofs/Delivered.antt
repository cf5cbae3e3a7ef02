-- What is added to a collector.
use Rattle.std.proofs.Common.{◌≡◌, List, refl}
use Rattle.trace_model.specs.Parcel.{Parcel}
use Rattle.trace_model.specs.Collection.{Agree}
use Rattle.collector.specs.declared.fault.AddFault.{AddFault}
use Rattle.collector.specs.declared.fault.AddFault.TheVariants.{Clash, TakenAndMissing, NoMemory}
use Rattle.collector.specs.Faults.{IsAddFault}

-- parcels that agree are at odds under no number
pub only_memory : (parcels : List Parcel) (fault : AddFault) → Agree parcels → IsAddFault parcels fault
    → fault ≡ NoMemory
only_memory parcels (Clash cpu number) agree (odds, in_front) =
    absurd (odds.differ (agree.one_record cpu.0 number.0 odds.one odds.other odds.has odds.has_other))
only_memory parcels (TakenAndMissing cpu number) agree (odds, in_front) =
    absurd (agree.not_missing cpu.0 number.0 odds.one odds.has odds.misses)
only_memory parcels NoMemory agree is = refl
