-- What a capture has of losses, beside what its pages state.
use Rattle.std.proofs.Common.{◌≡◌, ◌≢◌, ◌∙◌, ℕ, suc, ◌+◌, ◌-◌, ◌≤◌, ◌<◌, Bool, true, false, List, [], ◌∷◌, ◌++◌, length}
use Rattle.std.proofs.Common.{take, drop, get_or, refl, sym, ap, arith, length-append}
use Rattle.std.specs.Prelude.{◌==◌, ◌&&◌, nat_lt, if◌then◌else◌, Some}
use Rattle.std.proofs.lemmas.Grind.{common_steps}
use Rattle.std.proofs.lemmas.List.{take_more, take-append-drop, length-map}
use Rattle.trace_model.specs.Parcel.{Parcel}
use Rattle.trace_model.specs.Image.{Missed, none, unknown, counted}
use Rattle.page_numbers.specs.Parcels.{ParcelValue, as_parcels}
use Rattle.capture.specs.Pages.{Page, intact, damaged, least_missed, behind, end_from, parcels_from, unknown_at}
use Rattle.capture.specs.Pages.{unknown_from, damages_from}
use Rattle.capture.specs.Captures.{IsCapture, AreDamages}
use Rattle.capture.specs.declared.pages.Capture.{Capture}
use Rattle.capture.specs.declared.pages.Damaged.{Damaged}
use Rattle.capture.specs.files.Losses.{missed_in, counted_in, counted_losses, unknown_in, unknown_losses, are_intact}
use Rattle.capture.specs.files.Losses.{loss_of}

missed-append : (xs ys : List ParcelValue) → missed_in (xs ++ ys) ≡ missed_in xs + missed_in ys
missed-append [] ys = omega arith
missed-append (x ∷ xs) ys = omega (arith, missed-append xs ys)

pub missed-next : (parcels : List ParcelValue) (i : ℕ) (d : ParcelValue) → i < length parcels
    → missed_in (take (i + 1) parcels) ≡ missed_in (take i parcels) + (get_or parcels i d).missed
missed-next parcels i d below =
    ap missed_in (take_more parcels i d below) ∙ missed-append (take i parcels) (get_or parcels i d ∷ [])
    ∙ (let one : missed_in (take i parcels) + ((get_or parcels i d).missed + 0)
    ≡ missed_in (take i parcels) + (get_or parcels i d).missed =
    omega arith in
    one)

pub missed-within : (parcels : List ParcelValue) (i : ℕ) → missed_in (take i parcels) ≤ missed_in parcels
missed-within parcels i =
    let whole : missed_in (take i parcels ++ drop i parcels) ≡ missed_in parcels =
    ap missed_in (take-append-drop i parcels) in
    omega (arith, whole, missed-append (take i parcels) (drop i parcels))

model_missed : List Parcel → ℕ
model_missed [] = 0
model_missed (parcel ∷ parcels) = parcel.missed + model_missed parcels

as-model : (parcels : List ParcelValue) → model_missed (as_parcels parcels) ≡ missed_in parcels
unfolding model_missed
as-model [] = refl
as-model (p ∷ parcels) = ap (λ (n : ℕ). p.missed + n) (as-model parcels)

least-parts : (missed : Missed) → least_missed missed ≡ counted_in missed + unknown_in missed
least-parts none = refl
least-parts unknown = refl
least-parts (counted events) = omega arith

pages-missed : (cpu fill next : ℕ) (pages : List Page)
    → model_missed (parcels_from cpu fill next pages) ≡ counted_losses pages + unknown_losses pages
unfolding model_missed
pages-missed cpu fill next [] = refl
pages-missed cpu fill next (intact read ∷ pages) =
    let rest = pages-missed cpu (suc fill) (behind next (intact read)) pages in
    let here = least-parts read.missed in omega (arith, rest, here)
pages-missed cpu fill next (damaged cause ∷ pages) = pages-missed cpu (suc fill) next pages

pages-end : (next : ℕ) (pages : List Page) → next + (counted_losses pages + unknown_losses pages) ≤ end_from next pages
pages-end next [] = omega arith
pages-end next (intact read ∷ pages) =
    let rest = pages-end (behind next (intact read)) pages in
    let here = least-parts read.missed in omega (arith, rest, here)
pages-end next (damaged cause ∷ pages) = pages-end next pages

-- what a capture's parcels miss is what its pages lack, and it fits
pub capture-missed : (capture : Capture) (pages : List Page) → IsCapture capture pages
    → missed_in capture.parcels.items ≡ counted_losses pages + unknown_losses pages
capture-missed capture pages is =
    sym (as-model capture.parcels.items) ∙ ap model_missed is.parcels_are ∙ pages-missed capture.cpu.0 0 0 pages

pub capture-fits : (capture : Capture) (pages : List Page) → IsCapture capture pages
    → missed_in capture.parcels.items ≤ end_from 0 pages
capture-fits capture pages is = let low = pages-end 0 pages in omega (arith, capture-missed capture pages is, low)

unknown-here : (next : ℕ) (missed : Missed) → length (unknown_at next missed) ≡ unknown_in missed
unknown-here next none = refl
unknown-here next unknown = refl
unknown-here next (counted events) = refl

unknown-count : (next : ℕ) (pages : List Page) → length (unknown_from next pages) ≡ unknown_losses pages
unknown-count next [] = refl
unknown-count next (intact read ∷ pages) =
    let rest = unknown-count (behind next (intact read)) pages in
    omega (
      arith,
      length-append (unknown_at next read.missed) (unknown_from (behind next (intact read)) pages),
      unknown-here next read.missed,
      rest,
    )
unknown-count next (damaged cause ∷ pages) = unknown-count next pages

-- how many losses of unknown number a capture has
pub capture-unknown : (capture : Capture) (pages : List Page) → IsCapture capture pages
    → length capture.unknown.items ≡ unknown_losses pages
capture-unknown capture pages is =
    sym (length-map capture.unknown.items (λ number. number.0)) ∙ ap (length {A = ℕ}) is.unknown_are
    ∙ unknown-count 0 pages

none-damaged : (index next : ℕ) (pages : List Page) → AreDamages [] (damages_from index next pages)
    → are_intact pages ≡ true
none-damaged index next [] are = refl
none-damaged index next (intact read ∷ pages) are = none-damaged (suc index) (behind next (intact read)) pages are
none-damaged index next (damaged cause ∷ pages) are = absurd are

some-damaged : (index next : ℕ) (pages : List Page) (d : Damaged) (more : List Damaged)
    → AreDamages (d ∷ more) (damages_from index next pages)
    → are_intact pages ≡ false
some-damaged index next [] d more are = absurd are
some-damaged index next (intact read ∷ pages) d more are =
    some-damaged (suc index) (behind next (intact read)) pages d more are
some-damaged index next (damaged cause ∷ pages) d more are = refl

damaged-none : (items : List Damaged) (pages : List Page) → AreDamages items (damages_from 0 0 pages) → length items ≡ 0
    → are_intact pages ≡ true
damaged-none [] pages are few = none-damaged 0 0 pages are
damaged-none (d ∷ more) pages are few = absurd (omega (arith, few))

damaged-some : (items : List Damaged) (pages : List Page) → AreDamages items (damages_from 0 0 pages) → 0 < length items
    → are_intact pages ≡ false
damaged-some [] pages are few = absurd (omega (arith, few))
damaged-some (d ∷ more) pages are few = some-damaged 0 0 pages d more are

-- whether no page of a capture is damaged
pub capture-whole : (capture : Capture) (pages : List Page) → IsCapture capture pages → length capture.damaged.items ≡ 0
    → are_intact pages ≡ true
capture-whole capture pages is few = damaged-none capture.damaged.items pages is.damaged_are few

pub capture-broken : (capture : Capture) (pages : List Page) → IsCapture capture pages
    → 0 < length capture.damaged.items → are_intact pages ≡ false
capture-broken capture pages is some = damaged-some capture.damaged.items pages is.damaged_are some

-- ---- the loss

picked : (a b c : Bool) (x y : Missed) → a ≡ true → b ≡ true → c ≡ true → (if a && b && c then x else y) ≡ x
picked true true true x y p q r = refl
picked false b c x y p q r = absurd cc
picked true false c x y p q r = absurd cc
picked true true false x y p q r = absurd cc

not-one : (a b c : Bool) (x y : Missed) → a ≡ false → (if a && b && c then x else y) ≡ y
not-one false b c x y p = refl
not-one true b c x y p = absurd cc

not-intact : (a b c : Bool) (x y : Missed) → b ≡ false → (if a && b && c then x else y) ≡ y
not-intact a true c x y p = absurd cc
not-intact false false c x y p = refl
not-intact true false c x y p = refl

not-more : (a b c : Bool) (x y : Missed) → c ≡ false → (if a && b && c then x else y) ≡ y
not-more a b true x y p = absurd cc
not-more false b false x y p = refl
not-more true false false x y p = refl
not-more true true false x y p = refl

is-test : (n : ℕ) → n ≡ 1 → (n == 1) ≡ true
is-test n e = grind (arith, common_steps)

is-not-test : (n : ℕ) → n ≢ 1 → (n == 1) ≡ false
is-not-test n e = grind (arith, common_steps)

lt-test : (a b : ℕ) → a < b → nat_lt a b ≡ true
lt-test a b e = grind (arith, common_steps)

le-test : (a b : ℕ) → b ≤ a → nat_lt a b ≡ false
le-test a b e = grind (arith, common_steps)

pub loss-known : (overrun : ℕ) (pages : List Page) → unknown_losses pages ≡ 1 → are_intact pages ≡ true
    → counted_losses pages < overrun
    → loss_of (Some overrun) pages ≡ counted (overrun - counted_losses pages)
loss-known overrun pages one whole more =
    picked (unknown_losses pages == 1) (are_intact pages) (nat_lt (counted_losses pages) overrun) _ _
    (is-test (unknown_losses pages) one) whole (lt-test (counted_losses pages) overrun more)

pub loss-not-one : (overrun : ℕ) (pages : List Page) → unknown_losses pages ≢ 1 → loss_of (Some overrun) pages ≡ unknown
loss-not-one overrun pages other =
    not-one (unknown_losses pages == 1) (are_intact pages) (nat_lt (counted_losses pages) overrun) _ _
    (is-not-test (unknown_losses pages) other)

pub loss-damaged : (overrun : ℕ) (pages : List Page) → are_intact pages ≡ false → loss_of (Some overrun) pages ≡ unknown
loss-damaged overrun pages some =
    not-intact (unknown_losses pages == 1) (are_intact pages) (nat_lt (counted_losses pages) overrun) _ _ some

pub loss-low : (overrun : ℕ) (pages : List Page) → overrun ≤ counted_losses pages
    → loss_of (Some overrun) pages ≡ unknown
loss-low overrun pages low =
    not-more (unknown_losses pages == 1) (are_intact pages) (nat_lt (counted_losses pages) overrun) _ _
    (le-test (counted_losses pages) overrun low)
