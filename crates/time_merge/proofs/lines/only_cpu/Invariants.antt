use Rattle.std.proofs.Common.{◌≡◌, ◌<◌, ℕ, Some}
use Rattle.std.specs.List.{slice_get}
use Rattle.page_numbers.specs.Parcels.{ParcelValue}
use Rattle.time_merge.proofs.lines.only_cpu.Given as goal

abbrev pub invariant-loop-parcel : goal.invariant-loop-parcel
invariant-loop-parcel l =
    (k : ℕ) (parcel : ParcelValue) → k < l.parcel-index → slice_get l.parcels k ≡ Some parcel → parcel.cpu ≡ l.cpu.0
