-- What is found of one page.
use Rattle.std.proofs.Common.{◌≡◌, ℕ, Bool, List, [], ◌∷◌, ◌++◌, length, refl, sym, ap, ◌∙◌}
use Rattle.std.proofs.Common.{ap₂, arith, map, rules}
use Rattle.std.specs.Prelude.{◌==◌, not, if◌then◌else◌}
use Rattle.std.proofs.lemmas.List.{length-map, length-append, map-append}
use Rattle.trace_model.specs.declared.numbers.RecordNo.{RecordNo}
use Rattle.trace_model.specs.Parcel.{Parcel}
use Rattle.trace_model.specs.Image.{Missed, none, unknown, counted}
use Rattle.page_numbers.specs.Parcels.{ParcelValue, as_parcel, as_parcels}
use Rattle.capture.specs.Pages.{Page, PageRead, intact, damaged, told, told_of, unknown_at, unknown_from}
use Rattle.capture.specs.Pages.{parcels_from, parcel_at, damages_from}
use Rattle.capture.specs.Captures.{numbers_of, AreDamages}
use Rattle.capture.specs.declared.pages.Damaged.{Damaged as DamagedPage}
use Rattle.page_lines.specs.declared.page.Loss.{Loss}
use Rattle.page_lines.specs.declared.page.Found.TheVariants.{Read, Damaged}
use Rattle.page_image.specs.declared.image.Missed.TheVariants.{Unknown}
use Rattle.page_lines.specs.Found.{IsFound}
use Rattle.page_lines.specs.Stating.{told_by}

-- what is unknown stays unknown
told_missed : (missed : Missed) → told_of unknown missed ≡ missed
told_missed none = refl
told_missed unknown = refl
told_missed (counted events) = refl

pub told_same : (page : Page) → told unknown page ≡ page
told_same (intact read) =
    ap (λ (m : Missed). intact record { missed = m; records = read.records }) (told_missed read.missed)
told_same (damaged cause) = refl

pub told_all : (pages : List Page) → map (told_by Unknown) pages ≡ pages
told_all [] = refl
told_all (page ∷ pages) =
    ap₂ (λ (first : Page) (others : List Page). first ∷ others) (told_same page) (told_all pages)

-- whether a loss is unknown
is_stated : (missed : Missed) (numbers : List RecordNo) (is_unknown : Bool)
    → numbers_of numbers ≡ unknown_at 0 missed ++ []
    → is_unknown ≡ not (length numbers == 0)
    → (next : ℕ)
    → unknown_at next missed ≡ (if is_unknown then next ∷ [] else [])
is_stated none [] is_unknown are is next = rw is refl
is_stated none (n ∷ numbers) is_unknown are is next = absurd (let no = ap length are in omega (arith, no))
is_stated unknown [] is_unknown are is next = absurd (let no = ap length are in omega (arith, no))
is_stated unknown (n ∷ numbers) is_unknown are is next = search (rules, is)
is_stated (counted events) [] is_unknown are is next = rw is refl
is_stated (counted events) (n ∷ numbers) is_unknown are is next =
    absurd (let no = ap length are in omega (arith, no))

-- a list that ends with an element is this one alone
last_of_one : {A : Type 0} (before : List A) (last x : A) → before ++ last ∷ [] ≡ x ∷ [] → last ≡ x
last_of_one [] last x same = cc
last_of_one (b ∷ []) last x same = absurd (let no = ap length same in omega (arith, no))
last_of_one (b ∷ c ∷ before) last x same = absurd (let no = ap length same in omega (arith, no))

-- the last of the parcels of a page is its parcel
parcel_of : (cpu : ℕ) (read : PageRead) (before : List ParcelValue) (parcel : ParcelValue)
    → as_parcels (before ++ parcel ∷ []) ≡ parcels_from cpu 0 0 (intact read ∷ [])
    → as_parcel parcel ≡ parcel_at cpu 0 0 read
parcel_of cpu read before parcel are =
    last_of_one (as_parcels before) (as_parcel parcel) (parcel_at cpu 0 0 read)
    (sym (map-append as_parcel before (parcel ∷ [])) ∙ are)

-- a page that reads
pub found_read : (cpu : ℕ) (page : Page) (before : List ParcelValue) (parcel : ParcelValue)
    (numbers : List RecordNo) (loss : Loss)
    → as_parcels (before ++ parcel ∷ []) ≡ parcels_from cpu 0 0 (page ∷ [])
    → numbers_of numbers ≡ unknown_from 0 (page ∷ [])
    → loss.least ≡ parcel.missed
    → loss.is_unknown ≡ not (length numbers == 0)
    → IsFound (Read loss parcel) page
found_read cpu (intact read) before parcel numbers loss are unknown_are least stated =
    let is = parcel_of cpu read before parcel are in (
      least ∙ ap (λ (p : Parcel). p.missed) is,
      is_stated read.missed numbers loss.is_unknown unknown_are stated,
      ap (λ (p : Parcel). p.records) is,
    )
found_read cpu (damaged cause) before parcel numbers loss are unknown_are least stated =
    absurd (let no = sym (length-map (before ++ parcel ∷ []) as_parcel) ∙ ap length are in
    let long = length-append before (parcel ∷ []) in omega (arith, no, long))

-- a page that can't be read
pub found_damaged : (cpu : ℕ) (page : Page) (parcels : List ParcelValue) (before : List DamagedPage)
    (last : DamagedPage)
    → as_parcels parcels ≡ parcels_from cpu 0 0 (page ∷ [])
    → length parcels ≡ 0
    → AreDamages (before ++ last ∷ []) (damages_from 0 0 (page ∷ []))
    → IsFound (Damaged last.fault) page
found_damaged cpu (intact read) parcels before last are none_read damages =
    absurd (let no = sym (length-map parcels as_parcel) ∙ ap length are in omega (arith, no, none_read))
found_damaged cpu (damaged cause) parcels [] last are none_read (is, end) = is.fault_is
found_damaged cpu (damaged cause) parcels (b ∷ []) last are none_read (is, more) = absurd more
found_damaged cpu (damaged cause) parcels (b ∷ c ∷ before) last are none_read (is, more) = absurd more
