-- The records of pages are those of their parcels, by rising number.
use Rattle.std.proofs.Common.{◌≡◌, ◌⊎◌, inl, inr, ⊎_elim, ℕ, zero, suc, ◌+◌, ◌<◌, ◌≤◌, List}
use Rattle.std.proofs.Common.{[], ◌∷◌, ◌++◌, length, Some}
use Rattle.std.proofs.Common.{refl, sym, ap, ◌∙◌, subst, arith}
use Rattle.std.specs.Prelude.{⊤}
use Rattle.std.specs.List.{slice_get, enumerate_from}
use Rattle.std.proofs.lemmas.Option.{none-some}
use Rattle.trace_model.proofs.collections.Elements.{some_is, get_in_front, get_behind, get_in_either}
use Rattle.trace_model.specs.Record.{Record}
use Rattle.trace_model.specs.Parcel.{Parcel, IsPairOf}
use Rattle.trace_model.specs.Collection.{Has}
use Rattle.collector.specs.Listed.{AreRecordsOf}
use Rattle.capture.specs.Pages.{Page, intact, damaged, least_missed, behind, parcel_at, parcels_from}
use Rattle.page_lines.specs.Tallies.{entries_from}

-- ---- rising numbers

-- the numbers rise, the first of them isn't below this one
abbrev RisesFrom : (low : ℕ) → List (ℕ × Record) → Type 0
RisesFrom low [] = ⊤
RisesFrom low (a ∷ list) = (low ≤ a.0) × RisesFrom (suc a.0) list

lower : (low high : ℕ) (list : List (ℕ × Record)) → low ≤ high → RisesFrom high list → RisesFrom low list
lower low high [] up rises = tt
lower low high (a ∷ list) up (first, others) = (omega (arith, up, first), others)

rises_before : (low first : ℕ) (records : List Record) (rest : List (ℕ × Record)) → low ≤ first
    → RisesFrom (first + length records) rest → RisesFrom low (enumerate_from first records ++ rest)
rises_before low first [] rest up rises = lower low (first + 0) rest (omega (arith, up)) rises
rises_before low first (r ∷ records) rest up rises = (
  up,
  rises_before (suc first) (first + 1) records rest (omega arith)
      (lower (first + 1 + length records) (first + suc (length records)) rest (omega arith) rises),
)

pages_rise : (next : ℕ) (pages : List Page) → RisesFrom next (entries_from next pages)
pages_rise next [] = tt
pages_rise next (damaged cause ∷ pages) = pages_rise next pages
pages_rise next (intact read ∷ pages) =
    rises_before next (next + least_missed read.missed) read.records (entries_from (behind next (intact read)) pages)
    (omega arith) (pages_rise (behind next (intact read)) pages)

first_rises : (low : ℕ) (list : List (ℕ × Record)) (b : ℕ × Record) → RisesFrom low list
    → slice_get list 0 ≡ Some b → low ≤ b.0
first_rises low [] b rises at = absurd (none-some b at)
first_rises low (a ∷ list) b rises at = subst (λ (x : ℕ × Record). low ≤ x.0) (some_is a b at) rises.0

neighbours : (low : ℕ) (list : List (ℕ × Record)) → RisesFrom low list → (k : ℕ) (a b : ℕ × Record)
    → slice_get list k ≡ Some a → slice_get list (suc k) ≡ Some b → a.0 < b.0
neighbours low [] rises k a b at next = absurd (none-some a at)
neighbours low (x ∷ list) rises zero a b at next =
    subst (λ (y : ℕ × Record). y.0 < b.0) (some_is x a at) (first_rises (suc x.0) list b rises.1 next)
neighbours low (x ∷ list) rises (suc k) a b at next = neighbours (suc x.0) list rises.1 k a b at next

-- ---- each of them, and no other

numbered_at : (first : ℕ) (records : List Record) (k : ℕ) (a : ℕ × Record)
    → slice_get (enumerate_from first records) k ≡ Some a
    → (a.0 ≡ first + k) × (slice_get records k ≡ Some a.1)
numbered_at first [] k a at = absurd (none-some a at)
numbered_at first (r ∷ records) zero a at =
    let same = some_is (first, r) a at in (
      sym (ap (λ (x : ℕ × Record). x.0) same) ∙ (let e : first ≡ first + 0 = omega arith in e),
      ap (λ (x : ℕ × Record). Some x.1) same,
    )
numbered_at first (r ∷ records) (suc k) a at =
    let more = numbered_at (first + 1) records k a at in
    (more.0 ∙ (let e : first + 1 + k ≡ first + suc k = omega arith in e), more.1)

at_number : (first : ℕ) (records : List Record) (k : ℕ) (r : Record) → slice_get records k ≡ Some r
    → slice_get (enumerate_from first records) k ≡ Some (first + k, r)
at_number first [] k r at = absurd (none-some r at)
at_number first (x ∷ records) zero r at =
    ap (λ (y : Record). Some (first, y)) (some_is x r at)
    ∙ ap (λ (n : ℕ). Some (n, r)) (let e : first ≡ first + 0 = omega arith in e)
at_number first (x ∷ records) (suc k) r at =
    at_number (first + 1) records k r at
    ∙ ap (λ (n : ℕ). Some (n, r)) (let e : first + 1 + k ≡ first + suc k = omega arith in e)

has_either : (p : Parcel) (ps : List Parcel) (cpu n : ℕ) (r : Record) → Has (p ∷ ps) cpu n r
    → IsPairOf p cpu n r ⊎ Has ps cpu n r
has_either p ps cpu n r h = at_index h.index h.parcel h.at h.pair
  where
    at_index : (k : ℕ) (q : Parcel) → slice_get (p ∷ ps) k ≡ Some q → IsPairOf q cpu n r
        → IsPairOf p cpu n r ⊎ Has ps cpu n r
    at_index zero q at is = inl (subst (λ (x : Parcel). IsPairOf x cpu n r) (sym (some_is p q at)) is)
    at_index (suc k) q at is = inr record { index = k; parcel = q; at = at; pair = is }

has_behind : (p : Parcel) (ps : List Parcel) (cpu n : ℕ) (r : Record) → Has ps cpu n r → Has (p ∷ ps) cpu n r
has_behind p ps cpu n r h = record { index = suc h.index; parcel = h.parcel; at = h.at; pair = h.pair }

of_parcels : (cpu fill next : ℕ) (pages : List Page) (k : ℕ) (a : ℕ × Record)
    → slice_get (entries_from next pages) k ≡ Some a → Has (parcels_from cpu fill next pages) cpu a.0 a.1
of_parcels cpu fill next [] k a at = absurd (none-some a at)
of_parcels cpu fill next (damaged cause ∷ pages) k a at = of_parcels cpu (suc fill) next pages k a at
of_parcels cpu fill next (intact read ∷ pages) k a at =
    let first = next + least_missed read.missed in
    let p = parcel_at cpu fill next read in
    let ps = parcels_from cpu (suc fill) (behind next (intact read)) pages in
    ⊎_elim
    (λ (own : (j : ℕ) × (slice_get (enumerate_from first read.records) j ≡ Some a)).
    let is = numbered_at first read.records own.0 a own.1 in
    record {
      index = 0;
      parcel = p;
      at = refl;
      pair = record { index = own.0; cpu_is = refl; number_is = is.0; record_is = is.1 };
    })
    (λ (rest : (j : ℕ) × (slice_get (entries_from (behind next (intact read)) pages) j ≡ Some a)).
    has_behind p ps cpu a.0 a.1 (of_parcels cpu (suc fill) (behind next (intact read)) pages rest.0 a rest.1))
    (get_in_either (enumerate_from first read.records) (entries_from (behind next (intact read)) pages) k a at)

all_of_parcels : (cpu fill next : ℕ) (pages : List Page) (n : ℕ) (r : Record)
    → Has (parcels_from cpu fill next pages) cpu n r → (k : ℕ) × (slice_get (entries_from next pages) k ≡ Some (n, r))
all_of_parcels cpu fill next [] n r h = absurd (none-some h.parcel h.at)
all_of_parcels cpu fill next (damaged cause ∷ pages) n r h = all_of_parcels cpu (suc fill) next pages n r h
all_of_parcels cpu fill next (intact read ∷ pages) n r h =
    let first = next + least_missed read.missed in
    let own = enumerate_from first read.records in
    let rest = entries_from (behind next (intact read)) pages in
    ⊎_elim
    (λ (is : IsPairOf (parcel_at cpu fill next read) cpu n r). (
      is.index,
      get_in_front own rest is.index (n, r)
          (at_number first read.records is.index r is.record_is
          ∙ ap (λ (m : ℕ). Some (m, r)) (sym is.number_is)),
    ))
    (λ (has : Has (parcels_from cpu (suc fill) (behind next (intact read)) pages) cpu n r).
    let found = all_of_parcels cpu (suc fill) (behind next (intact read)) pages n r has in
    (length own + found.0, get_behind own rest found.0 ∙ found.1))
    (has_either (parcel_at cpu fill next read) (parcels_from cpu (suc fill) (behind next (intact read)) pages) cpu n r
    h)

pub records_are : (cpu fill next : ℕ) (pages : List Page)
    → AreRecordsOf (parcels_from cpu fill next pages) cpu (entries_from next pages)
records_are cpu fill next pages = record {
  rising = neighbours next (entries_from next pages) (pages_rise next pages);
  of_them = of_parcels cpu fill next pages;
  whole = all_of_parcels cpu fill next pages;
}
