-- What contracts see of a parcel: the page that it shares, under its numbers; and the model's parcel that this is.
use Rattle.std.specs.Prelude.{◌≡◌, ℕ, List, length, map, Some}
use Rattle.std.specs.List.{slice_get, enumerate_from}
use Rattle.trace_model.specs.Record.{Record}
use Rattle.trace_model.specs.Parcel.{Parcel}
use Rattle.trace_model.specs.ParcelBytes.{IsParcel}
use Rattle.page_image.specs.Contents.{Contents, IsPage, records_of_page, HaveSameData}

-- A parcel: its CPU, how many numbers are missing before its records, and its page, with the page's time, size and
-- data.
pub record ParcelValue : Type 0 where
  pub cpu : ℕ
  pub missed : ℕ
  pub page : Contents

-- the parcel that a page is, under this CPU and with this many numbers missing before its records
abbrev pub parcel_of_page : ℕ → Contents → ℕ → Parcel
parcel_of_page cpu page missed = record {
  cpu = cpu;
  fill = page.fill;
  first = page.first;
  missed = missed;
  records = records_of_page page;
}

-- the model's parcel, which has the page's records and not the page
abbrev pub as_parcel : ParcelValue → Parcel
as_parcel parcel = parcel_of_page parcel.cpu parcel.page parcel.missed

abbrev pub as_parcels : List ParcelValue → List Parcel
as_parcels parcels = map as_parcel parcels

-- the parcel of this CPU that a page is, once it is copied to the length of its data
abbrev pub fitted_parcel : ℕ → Contents → ℕ → ParcelValue
fitted_parcel cpu page missed =
    record { cpu = cpu; missed = missed; page = record page { size = length page.bytes } }

-- What holds of each parcel: its page's data reads, its CPU is one, and its records have numbers.
pub record IsParcelValue (parcel : ParcelValue) : Type 0 where
  pub page_reads : IsPage parcel.page
  pub sound : IsParcel (as_parcel parcel)

-- the records of a parcel in their order, each under its number
abbrev pub entries_of_parcel : Parcel → List (ℕ × Record)
entries_of_parcel parcel = enumerate_from parcel.first parcel.records

-- all parcels are of this CPU
abbrev pub AreOfCpu : List Parcel → ℕ → Type 0
AreOfCpu parcels cpu = (k : ℕ) (parcel : Parcel) → slice_get parcels k ≡ Some parcel → parcel.cpu ≡ cpu

-- both have the same records under the same numbers
pub record HaveSameRecords (parcel other : Parcel) : Type 0 where
  pub first_is : parcel.first ≡ other.first
  pub records_are : parcel.records ≡ other.records

-- both pages have the same time and data, and the same first number
pub record AreAlike (page other : Contents) : Type 0 where
  pub first_is : page.first ≡ other.first
  pub data_is : HaveSameData page other
