-- One page more in a tally.
use Rattle.std.proofs.Common.{◌≡◌, ℕ, ◌+◌, ◌^◌, ◌<◌, List, [], ◌∷◌, ◌++◌, length, map, Option, Some, None, sym}
use Rattle.std.proofs.Common.{ap, ◌∙◌, ap₂, subst, arith, append-nil, append_assoc, length-append}
use Rattle.trace_model.specs.declared.numbers.RecordNo.{RecordNo}
use Rattle.page_image.specs.Contents.{records_of_page}
use Rattle.page_numbers.specs.Parcels.{ParcelValue}
use Rattle.page_image.specs.declared.image.ImageFault.{ImageFault}
use Rattle.capture.specs.Pages.{Page, intact, damaged, least_missed, behind, unknown_at, unknown_from}
use Rattle.capture.specs.Pages.{damages_from, end_from, Fit, Damage}
use Rattle.capture.specs.Captures.{numbers_of, AreDamages}
use Rattle.capture.specs.declared.pages.Damaged.{Damaged}
use Rattle.capture.proofs.Appended.{end-append, unknown-append, damages-append}
use Rattle.page_lines.specs.Found.{IsFound}
use Rattle.page_lines.specs.declared.page.Loss.{Loss}
use Rattle.page_lines.specs.declared.page.Found.TheVariants.{Read, Damaged as DamagedPage}
use Rattle.page_lines.specs.declared.stated.Stated.{Stated}
use Rattle.page_lines.specs.declared.tally.Tally.{Tally}
use Rattle.page_lines.specs.Tallies.{run_numbers, run_before, from_after, runs_from, AddsRead, AddsPage}

damages_more : (found : List Damaged) (damages : List Damage) (one : Damaged) (damage : Damage)
    → AreDamages found damages → AreDamages (one ∷ []) (damage ∷ [])
    → AreDamages (found ++ one ∷ []) (damages ++ damage ∷ [])
damages_more [] [] one damage are is = is
damages_more [] (d ∷ ds) one damage are is = absurd are
damages_more (f ∷ fs) [] one damage are is = absurd are
damages_more (f ∷ fs) (d ∷ ds) one damage are is = (are.0, damages_more fs ds one damage are.1 is)

-- the numbers fit with one page more
fit_more : (pages : List Page) (page : Page) (next count : ℕ) → next ≡ behind (end_from 0 pages) page → next < 2 ^ 64
    → count ≡ length pages + 1 → count < 2 ^ 64 → Fit (pages ++ page ∷ [])
fit_more pages page next count is low counted few = record {
  numbers = omega (arith, end-append 0 pages page, is, low);
  fills = omega (arith, length-append pages (page ∷ []), counted, few);
}

-- a page that reads
pub adds_read : (old mid : Tally) (count : ℕ) (loss : Loss) (parcel : ParcelValue) (first : RecordNo) (page : Page)
    → IsFound (Read loss parcel) page
    → AddsRead old loss (length (records_of_page parcel.page)) first.0 mid
    → count ≡ old.pages + 1 → count < 2 ^ 64
    → AddsPage old page (Some (first, parcel)) (record mid { pages = count })
adds_read old mid count loss parcel first (damaged cause) found adds counted few = absurd found
adds_read old mid count loss parcel first (intact read) (least, unknown, same) adds counted few =
    let page = intact read in
    let begins : first.0 ≡ old.next.0 + least_missed read.missed =
    adds.first_is ∙ ap (λ (n : ℕ). old.next.0 + n) least in
    let many : length (records_of_page parcel.page) ≡ length read.records = ap length same in
    let ends : mid.next.0 ≡ behind old.next.0 page = omega (arith, adds.next_is, begins, many) in
    record {
      found_is = (begins, same);
      next_is = ends;
      tally_is = λ pages is. record {
        missing_are = λ more.
            ap₂ (λ (front back : List (ℕ × ℕ)). front ++ back) adds.missing_are
            (ap₂ (λ (f n : ℕ). runs_from f n more) adds.from_is adds.next_is)
            ∙ append_assoc (map run_numbers old.missing.items)
            (run_before old.from.0 first.0 (length (records_of_page parcel.page)))
            (runs_from (from_after old.from.0 first.0 (length (records_of_page parcel.page)))
            (first.0 + length (records_of_page parcel.page)) more)
            ∙ ap₂ (λ (f n : ℕ). map run_numbers old.missing.items
            ++ (run_before old.from.0 f n ++ runs_from (from_after old.from.0 f n) (f + n) more)) begins many
            ∙ is.missing_are (page ∷ more)
            ∙ ap (runs_from 0 0) (sym (append_assoc pages (page ∷ []) more));
        unknown_are = adds.unknown_are
            ∙ ap₂ (λ (front back : List ℕ). front ++ back) is.unknown_are
            (sym (unknown old.next.0) ∙ ap (λ (n : ℕ). unknown_at n read.missed) is.next_is
            ∙ sym (append-nil (unknown_at (end_from 0 pages) read.missed)))
            ∙ sym (unknown-append 0 pages page);
        damaged_are =
            subst (λ (ds : List Damage). AreDamages mid.damaged.items ds)
            (sym (damages-append 0 0 pages page ∙ append-nil (damages_from 0 0 pages)))
            (subst (λ (found : List Damaged). AreDamages found (damages_from 0 0 pages))
            (sym (ap (λ d. d.items) adds.damaged_are)) is.damaged_are);
        next_is = ends ∙ ap (λ (n : ℕ). behind n page) is.next_is ∙ sym (end-append 0 pages page);
        count_is = omega (arith, counted, is.count_is, length-append pages (page ∷ []));
        fit = fit_more pages page mid.next.0 count (ends ∙ ap (λ (n : ℕ). behind n page) is.next_is)
            (omega (arith, adds.next_is, adds.fits))
            (omega (arith, counted, is.count_is)) few;
      };
    }

-- a page that can't be read
pub adds_damaged : (old new : Tally) (one : Damaged) (page : Page) (fault : ImageFault)
    → IsFound (DamagedPage fault) page
    → one ≡ record { number = old.next; page = old.pages; fault = fault }
    → new.damaged.items ≡ old.damaged.items ++ one ∷ []
    → new.missing ≡ old.missing → new.unknown ≡ old.unknown → new.from ≡ old.from → new.next ≡ old.next
    → new.pages ≡ old.pages + 1 → new.pages < 2 ^ 64
    → AddsPage old page None new
adds_damaged old new one (intact read) fault found is added missing unknown from next counted few = absurd found
adds_damaged old new one (damaged cause) fault found one_is added missing unknown from next counted few =
    let page = damaged cause in
    record {
      found_is = tt;
      next_is = ap (λ (n : RecordNo). n.0) next;
      tally_is = λ pages is. record {
        missing_are = λ more.
            ap₂ (λ (runs : List (RecordNo × RecordNo)) (n : RecordNo × RecordNo).
            map run_numbers runs ++ runs_from n.0.0 n.1.0 more) (ap (λ m. m.items) missing)
            (λ i. (from i, next i))
            ∙ is.missing_are (page ∷ more)
            ∙ ap (runs_from 0 0) (sym (append_assoc pages (page ∷ []) more));
        unknown_are = ap (λ u. numbers_of u.items) unknown ∙ is.unknown_are
            ∙ sym (append-nil (unknown_from 0 pages)) ∙ sym (unknown-append 0 pages page);
        damaged_are =
            subst (λ (ds : List Damage). AreDamages new.damaged.items ds) (sym (damages-append 0 0 pages page))
            (subst (λ (all : List Damaged). AreDamages all (damages_from 0 0 pages
            ++ damages_from (0 + length pages) (end_from 0 pages) (page ∷ []))) (sym added)
            (damages_more old.damaged.items (damages_from 0 0 pages) one _ is.damaged_are (
              record {
                number_is = ap (λ (d : Damaged). d.number.0) one_is ∙ is.next_is;
                index_is = ap (λ (d : Damaged). d.page) one_is ∙ is.count_is
                    ∙ (let same : length pages ≡ 0 + length pages = omega arith in same);
                fault_is = ap (λ (d : Damaged). d.fault) one_is ∙ found;
              },
              tt,
            )));
        next_is = ap (λ (n : RecordNo). n.0) next ∙ is.next_is ∙ sym (end-append 0 pages page);
        count_is = omega (arith, counted, is.count_is, length-append pages (page ∷ []));
        fit = record {
          numbers = subst (λ (n : ℕ). n < 2 ^ 64) (sym (end-append 0 pages page)) is.fit.numbers;
          fills = omega (arith, counted, is.count_is, length-append pages (page ∷ []), few);
        };
      };
    }

-- what pages state of their losses is noted besides
pub stated_besides : (old mid : Tally) (stated : Stated) (page : Page) (found : Option (RecordNo × ParcelValue))
    → AddsPage old page found mid → AddsPage old page found (record mid { stated = stated })
stated_besides old mid stated page found adds = record {
  found_is = adds.found_is;
  next_is = adds.next_is;
  tally_is = λ pages is.
      let more = adds.tally_is pages is in
      record {
        missing_are = more.missing_are;
        unknown_are = more.unknown_are;
        damaged_are = more.damaged_are;
        next_is = more.next_is;
        count_is = more.count_is;
        fit = more.fit;
      };
}
