-- What contracts see of a capture that is read.
use Rattle.std.specs.Prelude.{◌≡◌, ◌⊎◌, ◌<◌, ℕ, List, [], ◌∷◌, ◌++◌, length, map}
use Rattle.trace_model.specs.declared.numbers.RecordNo.{RecordNo}
use Rattle.page_image.specs.Contents.{records_of_page}
use Rattle.page_image.specs.Images.{missed_of}
use Rattle.page_image.specs.declared.image.Image.{Image}
use Rattle.page_numbers.specs.Faults.{image_fault}
use Rattle.page_numbers.specs.Parcels.{as_parcels}
use Rattle.trace_model.specs.Image.{Missed}
use Rattle.capture.specs.Pages.{PageRead, Page, told, IsPageOf, AreCut, parcels_from, unknown_from, Damage}
use Rattle.capture.specs.Pages.{damages_from, end_from, Fit}
use Rattle.capture.specs.declared.pages.Capture.{Capture}
use Rattle.capture.specs.declared.pages.Damaged.{Damaged}

-- what is read of an image
abbrev pub page_read : Image → PageRead
page_read image = record { missed = missed_of image.missed; records = records_of_page image.page }

abbrev pub numbers_of : List RecordNo → List ℕ
numbers_of numbers = map (λ number. number.0) numbers

-- the answer is this damage
pub record IsDamage (damaged : Damaged) (damage : Damage) : Type 0 where
  pub number_is : damaged.number.0 ≡ damage.number
  pub index_is : damaged.page ≡ damage.index
  pub fault_is : damaged.fault ≡ image_fault damage.cause

-- the answers are these, one after the other
abbrev pub AreDamages : List Damaged → List Damage → Type 0
AreDamages [] [] = Unit {0}
AreDamages [] (damage ∷ damages) = ⊥
AreDamages (damaged ∷ more) [] = ⊥
AreDamages (damaged ∷ more) (damage ∷ damages) = IsDamage damaged damage × AreDamages more damages

-- What is read of these pages.
pub record IsCapture (capture : Capture) (pages : List Page) : Type 0 where
  pub parcels_are : as_parcels capture.parcels.items ≡ parcels_from capture.cpu.0 0 0 pages
  pub unknown_are : numbers_of capture.unknown.items ≡ unknown_from 0 pages
  pub damaged_are : AreDamages capture.damaged.items (damages_from 0 0 pages)
  pub next_is : capture.next.0 ≡ end_from 0 pages
  pub count_is : capture.pages ≡ length pages
  pub fit : Fit pages

-- One page more, with these bytes, was read after these pages; a loss of unknown number is `known`.
pub record AddsPage (known : Missed) (bytes : List ℕ) (pages : List Page) (capture : Capture) : Type 0 where
  pub page : Page
  pub page_is : IsPageOf bytes page
  pub capture_is : IsCapture capture (pages ++ told known page ∷ [])

-- these bytes were left after these pages: none, or a last page
abbrev pub AddsRest : (known : Missed) → List ℕ → List Page → Capture → Type 0
AddsRest known bytes pages capture =
    ((bytes ≡ []) × IsCapture capture pages) ⊎ ((0 < length bytes) × AddsPage known bytes pages capture)

-- with one page more, which has these bytes, the numbers don't fit
pub record PassesNumbers (known : Missed) (bytes : List ℕ) (pages : List Page) : Type 0 where
  pub page : Page
  pub page_is : IsPageOf bytes page
  pub past : Fit (pages ++ told known page ∷ []) → ⊥

-- These bytes, cut into pages of this size, were read after these pages.
pub record AddsPages (size : ℕ) (known : Missed) (bytes : List ℕ) (pages : List Page) (capture : Capture)
    : Type 0 where
  pub more : List Page
  pub cut : AreCut size bytes more
  pub capture_is : IsCapture capture (pages ++ map (told known) more)

-- with the pages of a beginning of these bytes the numbers don't fit
pub record PassesWithin (size : ℕ) (known : Missed) (bytes : List ℕ) (pages : List Page) : Type 0 where
  pub front : List ℕ
  pub behind : List ℕ
  pub more : List Page
  pub parts : bytes ≡ front ++ behind
  pub cut : AreCut size front more
  pub past : Fit (pages ++ map (told known) more) → ⊥
