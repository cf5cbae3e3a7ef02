-- A capture with one page more.
use Rattle.std.proofs.Common.{◌≡◌, ◌∙◌, ℕ, ◌+◌, ◌^◌, ◌≤◌, List, [], ◌∷◌, ◌++◌, length, refl, sym, ap, subst, arith}
use Rattle.std.proofs.Common.{length-append, append-nil}
use Rattle.trace_model.specs.Parcel.{Parcel}
use Rattle.std.specs.Prelude.{Result, Ok, Err, OnOk, ◌≢◌, ◌<◌}
use Rattle.trace_model.specs.Faults.{Cause, cut, bad_length, time_overflow}
use Rattle.trace_model.specs.Image.{ImageCause, too_short, bad_size, bad_count, bad_word, FirstImageFault}
use Rattle.record_words.specs.declared.next.WordFault.TheVariants.{Cut, BadLength, TimeOverflow}
use Rattle.page_image.specs.Images.{word_fault}
use Rattle.page_image.specs.declared.image.Image.{Image}
use Rattle.page_image.specs.declared.image.ImageFault.{ImageFault}
use Rattle.page_image.specs.declared.image.ImageFault.TheVariants.{TooShort, BadSize, BadCount, Word, NoMemory}
use Rattle.page_numbers.specs.Faults.{image_fault}
use Rattle.page_numbers.specs.Parcels.{as_parcels}
use Rattle.capture.specs.Pages.{PageRead, Page, intact, damaged, behind, end_from, parcel_at, parcels_from, unknown_at}
use Rattle.capture.specs.Pages.{unknown_from, Damage, damages_from, Fit}
use Rattle.capture.specs.Captures.{numbers_of, IsDamage, AreDamages, IsCapture}
use Rattle.capture.specs.declared.pages.Capture.{Capture}
use Rattle.capture.specs.declared.pages.Damaged.{Damaged}
use Rattle.capture.proofs.Appended.{end-append, parcels-append, unknown-append, damages-append}

damages_push : (more : List Damaged) (damages : List Damage) (d : Damaged) (damage : Damage) → AreDamages more damages
    → IsDamage d damage
    → AreDamages (more ++ d ∷ []) (damages ++ damage ∷ [])
damages_push [] [] d damage are is = (is, tt)
damages_push [] (first ∷ damages) d damage are is = absurd are
damages_push (first ∷ more) [] d damage are is = absurd are
damages_push (first ∷ more) (other ∷ damages) d damage are is = (are.0, damages_push more damages d damage are.1 is)

count_more : (pages : List Page) (page : Page) (n m : ℕ) → n ≡ length pages → m ≡ n + 1
    → m ≡ length (pages ++ page ∷ [])
count_more pages page n m was is = omega (arith, was, is, length-append pages (page ∷ []))

-- a page that reads
pub capture-intact : (old new : Capture) (pages : List Page) (read : PageRead) → IsCapture old pages → new.cpu ≡ old.cpu
    → as_parcels new.parcels.items ≡ as_parcels old.parcels.items ++ parcel_at old.cpu.0 old.pages old.next.0 read ∷ []
    → numbers_of new.unknown.items ≡ numbers_of old.unknown.items ++ unknown_at old.next.0 read.missed
    → new.damaged.items ≡ old.damaged.items → new.next.0 ≡ behind old.next.0 (intact read) → new.pages ≡ old.pages + 1
    → behind old.next.0 (intact read) < 2 ^ 64 → old.pages + 1 < 2 ^ 64
    → IsCapture new (pages ++ intact read ∷ [])
capture-intact old new pages read was cpu parcels unknown kept next count low few =
    let page = intact read in
    let all = pages ++ page ∷ [] in
    let cpu_is : old.cpu.0 ≡ new.cpu.0 = cc in
    let ends : behind old.next.0 page ≡ end_from 0 all =
    ap (λ (n : ℕ). behind n page) was.next_is ∙ sym (end-append 0 pages page) in
    let counted = count_more pages page old.pages new.pages was.count_is count in
    let fill_is : old.pages ≡ 0 + length pages = omega (arith, was.count_is) in
    record {
      parcels_are = parcels
          ∙ ap (λ (ps : List Parcel). ps ++ parcel_at old.cpu.0 old.pages old.next.0 read ∷ []) was.parcels_are
          ∙ ap (λ (n : ℕ). parcels_from old.cpu.0 0 0 pages ++ parcel_at old.cpu.0 old.pages n read ∷ []) was.next_is
          ∙ ap (λ (f : ℕ). parcels_from old.cpu.0 0 0 pages ++ parcel_at old.cpu.0 f (end_from 0 pages) read ∷ [])
          fill_is
          ∙ sym (parcels-append old.cpu.0 0 0 pages page)
          ∙ ap (λ (c : ℕ). parcels_from c 0 0 all) cpu_is;
      unknown_are = unknown
          ∙ ap (λ (ns : List ℕ). ns ++ unknown_at old.next.0 read.missed) was.unknown_are
          ∙ ap (λ (n : ℕ). unknown_from 0 pages ++ unknown_at n read.missed) was.next_is
          ∙ ap (λ (ns : List ℕ). unknown_from 0 pages ++ ns)
          (sym (append-nil (unknown_at (end_from 0 pages) read.missed)))
          ∙ sym (unknown-append 0 pages page);
      damaged_are = subst (λ (ds : List Damage). AreDamages new.damaged.items ds)
          (sym (append-nil (damages_from 0 0 pages)) ∙ sym (damages-append 0 0 pages page))
          (subst (λ (ds : List Damaged). AreDamages ds (damages_from 0 0 pages)) (sym kept) was.damaged_are);
      next_is = next ∙ ends;
      count_is = counted;
      fit = record { numbers = omega (arith, ends, low); fills = omega (arith, counted, count, few) };
    }

-- a page that can't be read
pub capture-damaged : (old new : Capture) (pages : List Page) (cause : ImageCause) (d : Damaged) → IsCapture old pages
    → new.cpu ≡ old.cpu
    → new.parcels.items ≡ old.parcels.items → new.unknown.items ≡ old.unknown.items
    → new.damaged.items ≡ old.damaged.items ++ d ∷ []
    → d.number.0 ≡ old.next.0 → d.page ≡ old.pages → d.fault ≡ image_fault cause
    → new.next.0 ≡ old.next.0 → new.pages ≡ old.pages + 1 → old.pages + 1 < 2 ^ 64
    → IsCapture new (pages ++ damaged cause ∷ [])
capture-damaged old new pages cause d was cpu parcels unknown pushed number index fault next count few =
    let page = damaged cause in
    let all = pages ++ page ∷ [] in
    let cpu_is : old.cpu.0 ≡ new.cpu.0 = cc in
    let counted = count_more pages page old.pages new.pages was.count_is count in
    let damage : Damage = record { number = end_from 0 pages; index = 0 + length pages; cause = cause } in
    let is : IsDamage d damage =
    record { number_is = number ∙ was.next_is; index_is = omega (arith, index, was.count_is); fault_is = fault } in
    record {
      parcels_are = ap as_parcels parcels ∙ was.parcels_are
          ∙ sym (append-nil (parcels_from old.cpu.0 0 0 pages))
          ∙ sym (parcels-append old.cpu.0 0 0 pages page)
          ∙ ap (λ (c : ℕ). parcels_from c 0 0 all) cpu_is;
      unknown_are = ap numbers_of unknown ∙ was.unknown_are
          ∙ sym (append-nil (unknown_from 0 pages))
          ∙ sym (unknown-append 0 pages page);
      damaged_are = subst (λ (ds : List Damage). AreDamages new.damaged.items ds) (sym (damages-append 0 0 pages page))
          (subst (λ (ds : List Damaged). AreDamages ds (damages_from 0 0 pages ++ damage ∷ [])) (sym pushed)
          (damages_push old.damaged.items (damages_from 0 0 pages) d damage was.damaged_are is));
      next_is = next ∙ was.next_is ∙ sym (end-append 0 pages page);
      count_is = counted;
      fit = record {
        numbers = let low = was.fit.numbers in omega (arith, end-append 0 pages page);
        fills = omega (arith, counted, count, few);
      };
    }

-- the numbers of these pages don't fit
pub past-numbers : (old : Capture) (pages : List Page) (page : Page) → IsCapture old pages
    → 2 ^ 64 ≤ behind old.next.0 page → Fit (pages ++ page ∷ []) → ⊥
past-numbers old pages page was past fit =
    let here : behind old.next.0 page ≡ end_from 0 (pages ++ page ∷ []) =
    ap (λ (n : ℕ). behind n page) was.next_is ∙ sym (end-append 0 pages page) in
    let fits = fit.numbers in omega (arith, here)

-- ---- answers

pub on_ok : {A E P Q : Type 0} (result : Result A E) → (P → Q) → OnOk result P → OnOk result Q
on_ok (Ok x) f p = f p
on_ok (Err e) f p = p

pub on_ok_both : {A E P Q R : Type 0} (result : Result A E) → (P → Q → R) → OnOk result P → OnOk result Q
    → OnOk result R
on_ok_both (Ok x) f p q = f p q
on_ok_both (Err e) f p q = p

-- a fault that isn't refused memory has a cause
pub cause-of : (bytes : List ℕ) (result : Result Image ImageFault) (fault : ImageFault) → result ≡ Err fault
    → fault ≢ NoMemory
    → (result ≡ Err TooShort → FirstImageFault bytes too_short)
    → (result ≡ Err BadSize → FirstImageFault bytes bad_size)
    → (result ≡ Err BadCount → FirstImageFault bytes bad_count)
    → ((cause : Cause) (at : ℕ) → result ≡ Err (Word (word_fault cause at)) → FirstImageFault bytes (bad_word cause at))
    → (cause : ImageCause) × (fault ≡ image_fault cause) × FirstImageFault bytes cause
cause-of bytes result TooShort is other short size count word = (too_short, refl, short is)
cause-of bytes result BadSize is other short size count word = (bad_size, refl, size is)
cause-of bytes result BadCount is other short size count word = (bad_count, refl, count is)
cause-of bytes result (Word (Cut at)) is other short size count word = (bad_word cut at, refl, word cut at is)
cause-of bytes result (Word (BadLength at)) is other short size count word =
    (bad_word bad_length at, refl, word bad_length at is)
cause-of bytes result (Word (TimeOverflow at)) is other short size count word =
    (bad_word time_overflow at, refl, word time_overflow at is)
cause-of bytes result NoMemory is other short size count word = absurd (other refl)
