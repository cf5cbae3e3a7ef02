-- What is found of one page.
use Rattle.std.specs.Prelude.{◌≡◌, ℕ, [], ◌∷◌, if◌then◌else◌}
use Rattle.page_numbers.specs.Parcels.{as_parcel}
use Rattle.page_numbers.specs.Faults.{image_fault}
use Rattle.capture.specs.Pages.{Page, intact, damaged, least_missed, unknown_at}
use Rattle.page_lines.specs.declared.page.Found.{Found}
use Rattle.page_lines.specs.declared.page.Found.TheVariants.{Read, Damaged}

-- this was found of a page
abbrev pub IsFound : Found → Page → Type 0
IsFound (Read loss parcel) (intact read) =
    (loss.least ≡ least_missed read.missed) × ((next : ℕ) → unknown_at next read.missed
    ≡ (if loss.is_unknown then next ∷ [] else []))
    × ((as_parcel parcel).records ≡ read.records)
IsFound (Damaged fault) (damaged cause) = fault ≡ image_fault cause
IsFound (Read loss parcel) (damaged cause) = ⊥
IsFound (Damaged fault) (intact read) = ⊥
