-- What pages state of their losses.
use Rattle.std.proofs.Common.{◌≡◌, ℕ, ◌+◌, Bool, true, false, List, [], ◌∷◌, ◌++◌, length, refl, sym, ap, ◌∙◌}
use Rattle.std.proofs.Common.{arith}
use Rattle.std.specs.Prelude.{if◌then◌else◌}
use Rattle.trace_model.specs.Image.{Missed, none, unknown, counted}
use Rattle.page_image.specs.declared.image.Missed.{Missed as KnownMissed}
use Rattle.page_numbers.specs.Parcels.{ParcelValue}
use Rattle.page_image.specs.Images.{missed_of}
use Rattle.capture.specs.Pages.{Page, intact, damaged, unknown_at, least_missed, told_of}
use Rattle.capture.specs.files.Losses.{counted_losses, unknown_losses, counted_in, unknown_in}
use Rattle.page_lines.specs.declared.page.Loss.{Loss}
use Rattle.page_lines.specs.declared.page.Found.TheVariants.{Read}
use Rattle.page_lines.specs.declared.stated.Stated.{Stated}
use Rattle.page_lines.specs.Found.{IsFound}
use Rattle.page_lines.specs.Stating.{StatesMore, told_by}

-- ---- pages behind pages

unknown_both : (pages others : List Page)
    → unknown_losses (pages ++ others) ≡ unknown_losses pages + unknown_losses others
unknown_both [] others = omega arith
unknown_both (intact read ∷ pages) others = omega (arith, unknown_both pages others)
unknown_both (damaged cause ∷ pages) others = unknown_both pages others

counted_both : (pages others : List Page)
    → counted_losses (pages ++ others) ≡ counted_losses pages + counted_losses others
counted_both [] others = omega arith
counted_both (intact read ∷ pages) others = omega (arith, counted_both pages others)
counted_both (damaged cause ∷ pages) others = counted_both pages others

pub states_none : (stated : Stated) → StatesMore stated [] stated
states_none stated = record { unknown_is = omega arith; counted_is = omega arith }

pub states_both : (a b c : Stated) (pages others : List Page) → StatesMore a pages b → StatesMore b others c
    → StatesMore a (pages ++ others) c
states_both a b c pages others p q = record {
  unknown_is = omega (arith, p.unknown_is, q.unknown_is, unknown_both pages others);
  counted_is = omega (arith, p.counted_is, q.counted_is, counted_both pages others);
}

-- ---- what one page states

no_pair : (n : ℕ) → [] ≡ n ∷ [] → ⊥
no_pair n same = let no = ap length same in omega (arith, no)

missed_unknown : (missed : Missed) (is_unknown : Bool)
    → ((next : ℕ) → unknown_at next missed ≡ (if is_unknown then next ∷ [] else []))
    → is_unknown ≡ true → missed ≡ unknown
missed_unknown none is_unknown is same_as =
    absurd (no_pair 0 (is 0 ∙ ap (λ (b : Bool). if b then 0 ∷ [] else []) same_as))
missed_unknown unknown is_unknown is same_as = refl
missed_unknown (counted events) is_unknown is same_as =
    absurd (no_pair 0 (is 0 ∙ ap (λ (b : Bool). if b then 0 ∷ [] else []) same_as))

-- a loss whose number is stated
pub record IsCounted (missed : Missed) : Type 0 where
  pub not_unknown : unknown_in missed ≡ 0
  pub counted_is : counted_in missed ≡ least_missed missed
  pub stays : (known : Missed) → told_of known missed ≡ missed

missed_counted : (missed : Missed) (is_unknown : Bool)
    → ((next : ℕ) → unknown_at next missed ≡ (if is_unknown then next ∷ [] else []))
    → is_unknown ≡ false → IsCounted missed
missed_counted none is_unknown is same_as = record { not_unknown = refl; counted_is = refl; stays = λ known. refl }
missed_counted unknown is_unknown is same_as =
    absurd (no_pair 0 (sym (is 0 ∙ ap (λ (b : Bool). if b then 0 ∷ [] else []) same_as)))
missed_counted (counted events) is_unknown is same_as =
    record { not_unknown = refl; counted_is = refl; stays = λ known. refl }

pub states_unknown : (old new : Stated) (loss : Loss) (parcel : ParcelValue) (page : Page)
    → IsFound (Read loss parcel) page → loss.is_unknown ≡ true
    → new.unknown ≡ old.unknown + 1 → new.counted ≡ old.counted → StatesMore old (page ∷ []) new
states_unknown old new loss parcel (damaged cause) found is_so more kept = absurd found
states_unknown old new loss parcel (intact read) (least, is, same) is_so more kept =
    let missed = missed_unknown read.missed loss.is_unknown is is_so in
    let one : unknown_in read.missed ≡ 1 = ap unknown_in missed in
    let zero : counted_in read.missed ≡ 0 = ap counted_in missed in
    record { unknown_is = omega (arith, more, one); counted_is = omega (arith, kept, zero) }

pub states_counted : (old new : Stated) (loss : Loss) (parcel : ParcelValue) (page : Page)
    → IsFound (Read loss parcel) page → loss.is_unknown ≡ false
    → new.unknown ≡ old.unknown → new.counted ≡ old.counted + loss.least → StatesMore old (page ∷ []) new
states_counted old new loss parcel (damaged cause) found is_so kept more = absurd found
states_counted old new loss parcel (intact read) (least, is, same) is_so kept more =
    let counts = missed_counted read.missed loss.is_unknown is is_so in
    record {
      unknown_is = omega (arith, kept, counts.not_unknown);
      counted_is = omega (arith, more, least, counts.counted_is);
    }

-- ---- what is known of a loss of unknown number

pub told_unknown : (known : KnownMissed) (loss made : Loss) (parcel : ParcelValue) (page : Page)
    → IsFound (Read loss parcel) page → loss.is_unknown ≡ true
    → made.least ≡ least_missed (missed_of known)
    → ((next : ℕ) → unknown_at next (missed_of known) ≡ (if made.is_unknown then next ∷ [] else []))
    → IsFound (Read made parcel) (told_by known page)
told_unknown known loss made parcel (damaged cause) found is_so least_is numbers = absurd found
told_unknown known loss made parcel (intact read) (least, is, same) is_so least_is numbers =
    let missed : missed_of known ≡ told_of (missed_of known) read.missed =
    ap (told_of (missed_of known)) (sym (missed_unknown read.missed loss.is_unknown is is_so)) in (
      least_is ∙ ap least_missed missed,
      λ next. ap (unknown_at next) (sym missed) ∙ numbers next,
      same,
    )

pub told_counted : (known : KnownMissed) (loss : Loss) (parcel : ParcelValue) (page : Page)
    → IsFound (Read loss parcel) page → loss.is_unknown ≡ false → IsFound (Read loss parcel) (told_by known page)
told_counted known loss parcel (damaged cause) found is_so = absurd found
told_counted known loss parcel (intact read) (least, is, same) is_so =
    let missed = (missed_counted read.missed loss.is_unknown is is_so).stays (missed_of known) in (
      least ∙ ap least_missed (sym missed),
      λ next. ap (unknown_at next) missed ∙ is next,
      same,
    )
