-- Each page that reads, and so each piece of a ring, has its parcel.
use Rattle.std.proofs.Common.{◌≡◌, ◌∙◌, ℕ, zero, suc, ◌+◌, List, [], ◌∷◌, length, None, Some, refl, ap, subst, arith}
use Rattle.std.specs.List.{slice_get}
use Rattle.trace_model.specs.Record.{Record}
use Rattle.trace_model.specs.Partition.{Piece, covered_count, first_from}
use Rattle.trace_model.specs.Parcel.{Parcel}
use Rattle.trace_model.specs.Image.{ImageCause}
use Rattle.capture.specs.Pages.{PageRead, Page, intact, damaged, least_missed, parcel_at, parcels_from, behind}
use Rattle.capture.specs.Rings.{AreReported, HaveCounts}
use Rattle.capture.proofs.Numbers.{least_is}

no_piece : {p : Piece} → None ≡ Some p → ⊥
no_piece e = cc

some_piece : (p q : Piece) → Some p ≡ Some q → p ≡ q
some_piece p q e = cc

no_page : {page : Page} → None ≡ Some page → ⊥
no_page e = cc

not_damaged : (cause : ImageCause) (read : PageRead) → Some (damaged cause) ≡ Some (intact read) → ⊥
not_damaged cause read e = cc

some_read : (a b : PageRead) → Some (intact a) ≡ Some (intact b) → a ≡ b
some_read a b e = cc

-- the parcel of records
abbrev pub parcel_of : (cpu fill first missed : ℕ) → List Record → Parcel
parcel_of cpu fill first missed records =
    record { cpu = cpu; fill = fill; first = first; missed = missed; records = records }

-- a parcel at the first place
parcel_first : (cpu fill next missed : ℕ) (read : PageRead) (records : List Record) → least_missed read.missed ≡ missed
    → read.records ≡ records
    → parcel_at cpu fill next read ≡ parcel_of cpu (fill + 0) (next + missed) missed records
parcel_first cpu fill next missed read records skips are =
    ap (λ (n : ℕ). parcel_of cpu fill (next + n) n read.records) skips
    ∙ ap (λ (rs : List Record). parcel_of cpu fill (next + missed) missed rs) are
    ∙ ap (λ (f : ℕ). parcel_of cpu f (next + missed) missed records) (let same : fill ≡ fill + 0 = omega arith in same)

-- a parcel after the first place
parcel_after : (parcels : List Parcel) (j cpu fill k first missed : ℕ) (records : List Record)
    → slice_get parcels j ≡ Some (parcel_of cpu (suc fill + k) first missed records)
    → slice_get parcels j ≡ Some (parcel_of cpu (fill + suc k) first missed records)
parcel_after parcels j cpu fill k first missed records at =
    at
    ∙ ap (λ (f : ℕ). Some (parcel_of cpu f first missed records))
    (let same : suc fill + k ≡ fill + suc k = omega arith in same)

-- where all counts are known, each piece has its parcel
pub all-at : (cpu fill next : ℕ) (pages : List Page) (pieces : List Piece) → AreReported pages pieces → HaveCounts pages
    → (k : ℕ) (p : Piece) → slice_get pieces k ≡ Some p
    → (first : ℕ) × (first_from next pieces k ≡ Some first)
    × (slice_get (parcels_from cpu fill next pages) k ≡ Some (parcel_of cpu (fill + k) first p.skipped p.records))
all-at cpu fill next [] [] reported counts k p at = absurd (no_piece at)
all-at cpu fill next [] (q ∷ pieces) reported counts k p at = absurd reported
all-at cpu fill next (damaged cause ∷ pages) pieces reported counts k p at = absurd counts
all-at cpu fill next (intact read ∷ pages) [] reported counts k p at = absurd reported
all-at cpu fill next (intact read ∷ pages) (q ∷ pieces) (records_are, agrees, more) (known, others) zero p at =
    let skips : least_missed read.missed ≡ q.skipped = least_is read.missed q.skipped agrees known in
    subst (λ (r : Piece). (first : ℕ) × (Some (next + q.skipped) ≡ Some first)
    × (Some (parcel_at cpu fill next read) ≡ Some (parcel_of cpu (fill + 0) first r.skipped r.records)))
    (some_piece q p at) (
      next + q.skipped,
      refl,
      ap (λ (x : Parcel). Some x) (parcel_first cpu fill next q.skipped read q.records skips records_are),
    )
all-at cpu fill next (intact read ∷ pages) (q ∷ pieces) (records_are, agrees, more) (known, others) (suc k) p at =
    let skips : least_missed read.missed ≡ q.skipped = least_is read.missed q.skipped agrees known in
    let long = ap (length {A = Record}) records_are in
    let start : behind next (intact read) ≡ next + covered_count q = omega arith in
    let parcels : List Parcel = parcels_from cpu (suc fill) (behind next (intact read)) pages in
    let rest = all-at cpu (suc fill) (behind next (intact read)) pages pieces more others k p at in (
      rest.0,
      subst (λ (n : ℕ). first_from n pieces k ≡ Some rest.0) start rest.1,
      parcel_after parcels k cpu fill k rest.0 p.skipped p.records rest.2,
    )

-- there are as many parcels as pieces
pub as-many : (cpu fill next : ℕ) (pages : List Page) (pieces : List Piece) → AreReported pages pieces
    → HaveCounts pages
    → length (parcels_from cpu fill next pages) ≡ length pieces
as-many cpu fill next [] [] reported counts = refl
as-many cpu fill next [] (p ∷ pieces) reported counts = absurd reported
as-many cpu fill next (damaged cause ∷ pages) pieces reported counts = absurd counts
as-many cpu fill next (intact read ∷ pages) [] reported counts = absurd reported
as-many cpu fill next (intact read ∷ pages) (p ∷ pieces) reported counts =
    ap suc (as-many cpu (suc fill) (behind next (intact read)) pages pieces reported.2 counts.1)

-- each page that reads has its parcel
pub each-at : (cpu fill next : ℕ) (pages : List Page) (k : ℕ) (read : PageRead) → slice_get pages k ≡ Some (intact read)
    → (j first : ℕ)
    × (slice_get (parcels_from cpu fill next pages) j
    ≡ Some (parcel_of cpu (fill + k) first (least_missed read.missed) read.records))
each-at cpu fill next [] k read at = absurd (no_page at)
each-at cpu fill next (damaged cause ∷ pages) zero read at = absurd (not_damaged cause read at)
each-at cpu fill next (damaged cause ∷ pages) (suc k) read at =
    let rest = each-at cpu (suc fill) next pages k read at in (
      rest.0,
      rest.1,
      parcel_after (parcels_from cpu (suc fill) next pages) rest.0 cpu fill k rest.1 (least_missed read.missed)
          read.records rest.2,
    )
each-at cpu fill next (intact first ∷ pages) zero read at =
    let same : first ≡ read = some_read first read at in (
      0,
      next + least_missed read.missed,
      ap (λ (x : Parcel). Some x) (parcel_first cpu fill next (least_missed read.missed) first read.records
          (ap (λ (r : PageRead). least_missed r.missed) same) (ap (λ (r : PageRead). r.records) same)),
    )
each-at cpu fill next (intact first ∷ pages) (suc k) read at =
    let parcels : List Parcel = parcels_from cpu (suc fill) (behind next (intact first)) pages in
    let rest = each-at cpu (suc fill) (behind next (intact first)) pages k read at in
    (suc rest.0, rest.1, parcel_after parcels rest.0 cpu fill k rest.1 (least_missed read.missed) read.records rest.2)
