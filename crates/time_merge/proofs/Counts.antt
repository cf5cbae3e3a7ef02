-- Parcels by their values: how many records they have, and whose they are.
use Rattle.std.proofs.Common.{◌≡◌, ℕ, List, length, Some, sym, ap, ◌∙◌}
use Rattle.std.specs.List.{slice_get, sum_by}
use Rattle.page_numbers.specs.Parcels.{ParcelValue, as_parcel, as_parcels, AreOfCpu}
use Rattle.time_merge.proofs.Ordered.{mapped_at}

abbrev pub count_of : List ParcelValue → ℕ
count_of parcels = sum_by (λ parcel. length (as_parcel parcel).records) parcels

pub all_of_cpu : (parcels : List ParcelValue) (cpu : ℕ)
    → ((k : ℕ) (parcel : ParcelValue) → slice_get parcels k ≡ Some parcel → parcel.cpu ≡ cpu)
    → AreOfCpu (as_parcels parcels) cpu
all_of_cpu parcels cpu each k parcel at =
    let (value, there, is) = mapped_at as_parcel parcels k parcel at in
    sym (ap (λ p. p.cpu) is) ∙ each k value there
