-- What is read page by page is what is read of a capture.
use Rattle.std.proofs.Common.{◌≡◌, ℕ, suc, ◌+◌, List, [], ◌∷◌, ◌++◌, length, map, flat_map, refl, sym, ap, ap₂, ◌∙◌}
use Rattle.std.proofs.Common.{append_assoc, append-nil, subst, arith}
use Rattle.std.specs.List.{enumerate_from}
use Rattle.std.proofs.lemmas.List.{map-append}
use Rattle.trace_model.specs.Record.{Record}
use Rattle.page_numbers.specs.Parcels.{entries_of_parcel}
use Rattle.page_numbers.specs.Faults.{image_fault}
use Rattle.capture.specs.Pages.{Page, intact, damaged, unknown_at, parcels_from, unknown_from}
use Rattle.capture.specs.Pages.{damages_from, end_from, behind}
use Rattle.capture.specs.Captures.{AreDamages}
use Rattle.capture.specs.declared.pages.Damaged.{Damaged}
use Rattle.live_listing.specs.Gaps.{Lost, no_gap, with_loss}
use Rattle.live_listing.specs.Pages.{Reached, ReadRecord, records_behind, lost_behind, records_read, reached_with}
use Rattle.live_listing.specs.Pages.{records_of_pages, reached_by, numbered, unknown_before, damaged_before}
use Rattle.live_listing.specs.Pages.{AreBetween, nothing_reached}

suc_one : (n : ℕ) → suc n ≡ n + 1
suc_one n = omega arith

-- ---- numbers
numbers_behind : (lost : Lost) (records : List Record)
    → map numbered (records_behind lost records) ≡ enumerate_from lost.until records
numbers_behind lost [] = refl
numbers_behind lost (r ∷ records) =
    ap (λ (rs : List (ℕ × Record)). (lost.until, r) ∷ rs)
    (numbers_behind (no_gap (suc lost.until)) records
    ∙ ap (λ (n : ℕ). enumerate_from n records) (suc_one lost.until))

end_behind : (lost : Lost) (records : List Record) → (lost_behind lost records).until ≡ lost.until + length records
end_behind lost [] = let here : lost.until ≡ lost.until + 0 = omega arith in here
end_behind lost (r ∷ records) =
    end_behind (no_gap (suc lost.until)) records
    ∙ (let here : suc lost.until + length records ≡ lost.until + suc (length records) = omega arith in here)

next_with : (reached : Reached) (page : Page) → (reached_with reached page).lost.until ≡ behind reached.lost.until page
next_with reached (intact read) = end_behind (with_loss read.missed reached.lost) read.records
next_with reached (damaged cause) = refl

pub same_numbers : (cpu fill : ℕ) (reached : Reached) (pages : List Page)
    → map numbered (records_of_pages reached pages)
    ≡ flat_map entries_of_parcel (parcels_from cpu fill reached.lost.until pages)
same_numbers cpu fill reached [] = refl
same_numbers cpu fill reached (intact read ∷ pages) =
    let next = reached_with reached (intact read) in
    map-append numbered (records_read reached (intact read)) (records_of_pages next pages)
    ∙ ap₂ (λ (front back : List (ℕ × Record)). front ++ back)
    (numbers_behind (with_loss read.missed reached.lost) read.records)
    (same_numbers cpu (suc fill) next pages
    ∙ ap (λ (n : ℕ). flat_map entries_of_parcel (parcels_from cpu (suc fill) n pages))
    (next_with reached (intact read)))
same_numbers cpu fill reached (damaged cause ∷ pages) =
    same_numbers cpu (suc fill) (reached_with reached (damaged cause)) pages

pub same_end : (reached : Reached) (pages : List Page)
    → (reached_by reached pages).lost.until ≡ end_from reached.lost.until pages
same_end reached [] = refl
same_end reached (page ∷ pages) =
    same_end (reached_with reached page) pages ∙ ap (λ (n : ℕ). end_from n pages) (next_with reached page)

-- ---- gaps
between_behind : (lost : Lost) (records : List Record) (more : List ReadRecord) (last : Lost)
    → AreBetween (lost_behind lost records).from more last
    → AreBetween lost.from (records_behind lost records ++ more) last
between_behind lost [] more last are = are
between_behind lost (r ∷ records) more last are =
    (refl, refl, between_behind (no_gap (suc lost.until)) records more last are)

pub between : (reached : Reached) (pages : List Page)
    → AreBetween reached.lost.from (records_of_pages reached pages) (reached_by reached pages).lost
between reached [] = refl
between reached (intact read ∷ pages) =
    let next = reached_with reached (intact read) in
    between_behind (with_loss read.missed reached.lost) read.records (records_of_pages next pages)
    (reached_by next pages).lost (between next pages)
between reached (damaged cause ∷ pages) = between (reached_with reached (damaged cause)) pages

-- ---- what gaps have

-- what all gaps have, before records and behind the last of them
abbrev all_of_gaps : {A : Type 0} → (Lost → List A) → List ReadRecord → (behind : Lost) → List A
all_of_gaps of records behind = flat_map (λ (r : ReadRecord). of r.lost) records ++ of behind

module _ {A : Type 0} (of : Lost → List A) (none_of : (next : ℕ) → of (no_gap next) ≡ []) where
  -- a page's records are behind one gap
  of_first : (lost : Lost) (records : List Record) (more : List ReadRecord) (last : Lost) (rest : List A)
      → all_of_gaps of more last ≡ of (lost_behind lost records) ++ rest
      → all_of_gaps of (records_behind lost records ++ more) last ≡ of lost ++ rest
  of_first lost [] more last rest are = are
  of_first lost (r ∷ records) more last rest are =
      let next = no_gap (suc lost.until) in
      append_assoc (of lost) (flat_map (λ (x : ReadRecord). of x.lost) (records_behind next records ++ more)) (of last)
      ∙ ap (λ (back : List A). of lost ++ back)
      (of_first next records more last rest are ∙ ap (λ (front : List A). front ++ rest) (none_of (suc lost.until)))

pub same_unknown : (reached : Reached) (pages : List Page)
    → unknown_before (records_of_pages reached pages) (reached_by reached pages).lost
    ≡ reached.lost.unknown ++ unknown_from reached.lost.until pages
same_unknown reached [] = sym (append-nil reached.lost.unknown)
same_unknown reached (intact read ∷ pages) =
    let next = reached_with reached (intact read) in
    let lost = with_loss read.missed reached.lost in
    of_first (λ (l : Lost). l.unknown) (λ n. refl) lost read.records (records_of_pages next pages)
    (reached_by next pages).lost (unknown_from (behind reached.lost.until (intact read)) pages)
    (same_unknown next pages
    ∙ ap (λ (n : ℕ). next.lost.unknown ++ unknown_from n pages) (next_with reached (intact read)))
    ∙ append_assoc reached.lost.unknown (unknown_at reached.lost.until read.missed)
    (unknown_from (behind reached.lost.until (intact read)) pages)
same_unknown reached (damaged cause ∷ pages) = same_unknown (reached_with reached (damaged cause)) pages

-- these damaged pages are behind those of the gap
record AreDamagedBehind (reached : Reached) (pages : List Page) : Type 0 where
  rest : List Damaged
  all : damaged_before (records_of_pages reached pages) (reached_by reached pages).lost
      ≡ reached.lost.damaged ++ rest
  are : AreDamages rest (damages_from reached.pages reached.lost.until pages)

damaged_behind : (reached : Reached) (pages : List Page) → AreDamagedBehind reached pages
damaged_behind reached [] = record { rest = []; all = sym (append-nil reached.lost.damaged); are = tt }
damaged_behind reached (intact read ∷ pages) =
    let next = reached_with reached (intact read) in
    let lost = with_loss read.missed reached.lost in
    let more = damaged_behind next pages in
    record {
      rest = more.rest;
      all = of_first (λ (l : Lost). l.damaged) (λ n. refl) lost read.records (records_of_pages next pages)
          (reached_by next pages).lost more.rest more.all;
      are = subst (λ (n : ℕ). AreDamages more.rest (damages_from (suc reached.pages) n pages))
          (next_with reached (intact read)) more.are;
    }
damaged_behind reached (damaged cause ∷ pages) =
    let next = reached_with reached (damaged cause) in
    let more = damaged_behind next pages in
    let this : Damaged =
    record { number = record { 0 = reached.lost.until }; page = reached.pages; fault = image_fault cause } in
    record {
      rest = this ∷ more.rest;
      all = more.all ∙ append_assoc reached.lost.damaged (this ∷ []) more.rest;
      are = (record { number_is = refl; index_is = refl; fault_is = refl }, more.are);
    }

pub same_damaged : (pages : List Page)
    → AreDamages (damaged_before (records_of_pages nothing_reached pages) (reached_by nothing_reached pages).lost)
    (damages_from 0 0 pages)
same_damaged pages =
    let all = damaged_behind nothing_reached pages in
    subst (λ (found : List Damaged). AreDamages found (damages_from 0 0 pages)) (sym all.all) all.are
