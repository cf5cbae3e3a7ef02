-- What a walk still comes by: one word more, an end, and at the front all records of a page that reads.
use Rattle.std.proofs.Common.{◌≡◌, ℕ, ◌+◌, ◌^◌, ◌<◌, ◌≤◌, ltb, List, [], ◌∷◌, ◌++◌, drop, None, Some, refl, sym, ap}
use Rattle.std.proofs.Common.{ap₂, ◌∙◌, subst, arith, append_assoc}
use Rattle.std.specs.List.{AllByRecursion}
use Rattle.std.proofs.lemmas.Bool.{cond-true, cond-false, lt-ltb, le-ltb}
use Rattle.trace_model.specs.Record.{Record}
use Rattle.trace_model.specs.Words.{Word, short_data, long_data, padding, time_extend, time_stamp, IsWord, delta_of}
use Rattle.trace_model.specs.Words.{moment_after, records_at, records_behind, records_of, MovesTime, FitsTime, Decodes}
use Rattle.trace_model.specs.Reading.{IsData, payload_of, word_at_front, words_in, records_in}
use Rattle.trace_model.proofs.words.Unique.{words_in-IsJoined}
use Rattle.trace_model.proofs.words.Stepped.{words_in-found, words_in-none}
use Rattle.trace_model.proofs.words.Appended.{moment_after-push, moment_after-stamp}
use Rattle.record_words.specs.Next.{StandsAt, DataAt, PaddingAt, IsFaultAt}
use Rattle.record_words.specs.declared.put.Place.{Place}
use Rattle.record_words.specs.declared.next.WordFault.{WordFault}
use Rattle.page_image.specs.declared.walk.Reached.{Reached}
use Rattle.page_image.specs.Walk.{moment_behind, record_held, records_held, records_at_place, records_left}
use Rattle.page_image.proofs.Sought.{no_word_at_fault}

-- ---- one word more

-- a word after which the moment fits
held-fits : (moment m : ℕ) (w : Word) (words : List Word) → moment_behind moment w ≡ m → m < 2 ^ 64
    → records_held moment (w ∷ words) ≡ record_held m w ++ records_held m words
held-fits moment m w words is fits =
    cond-true (ltb (moment_behind moment w) (2 ^ 64)) _ _
    (lt-ltb (moment_behind moment w) (2 ^ 64) (subst (λ (n : ℕ). n < 2 ^ 64) (sym is) fits))
    ∙ ap (λ (n : ℕ). record_held n w ++ records_held n words) is

-- a word after which it doesn't
held-overflows : (moment : ℕ) (w : Word) (words : List Word) → 2 ^ 64 ≤ moment_behind moment w
    → records_held moment (w ∷ words) ≡ []
held-overflows moment w words past =
    cond-false (ltb (moment_behind moment w) (2 ^ 64)) _ _ (le-ltb (moment_behind moment w) (2 ^ 64) past)

data-behind : (moment : ℕ) (w : Word) → IsData w → moment_behind moment w ≡ moment + delta_of w
data-behind moment (short_data delta payload) is = refl
data-behind moment (long_data delta payload) is = refl
data-behind moment (padding delta skipped) is = absurd is
data-behind moment (time_extend delta) is = absurd is
data-behind moment (time_stamp time) is = absurd is

data-held : (moment : ℕ) (w : Word) → IsData w
    → record_held moment w ≡ record { moment = moment; bytes = payload_of w } ∷ []
data-held moment (short_data delta payload) is = refl
data-held moment (long_data delta payload) is = refl
data-held moment (padding delta skipped) is = absurd is
data-held moment (time_extend delta) is = absurd is
data-held moment (time_stamp time) is = absurd is

-- the word that is here, and what is left after it
left-word : (bytes : List ℕ) (reached behind : Reached) (w : Word) → StandsAt bytes reached.at behind.at w
    → moment_behind reached.moment w ≡ behind.moment → behind.moment < 2 ^ 64
    → records_left bytes reached ≡ record_held behind.moment w ++ records_left bytes behind
left-word bytes reached behind w here is fits =
    ap (records_held reached.moment) (words_in-found (drop reached.at bytes) w (drop behind.at bytes) here.found)
    ∙ held-fits reached.moment behind.moment w (words_in (drop behind.at bytes)) is fits

pub left-data : (bytes : List ℕ) (reached behind : Reached) (delta : ℕ) (place : Place)
    → DataAt bytes reached.at delta place behind.at → behind.moment ≡ reached.moment + delta → behind.moment < 2 ^ 64
    → records_left bytes reached ≡ records_at_place bytes behind.moment (Some place) ++ records_left bytes behind
left-data bytes reached behind delta place here is fits =
    left-word bytes reached behind here.word here.at_offset
    (data-behind reached.moment here.word here.is_data ∙ ap (λ (d : ℕ). reached.moment + d) here.delta_is ∙ sym is)
    fits
    ∙ ap (λ (rs : List Record). rs ++ records_left bytes behind)
    (data-held behind.moment here.word here.is_data
    ∙ ap (λ (b : List ℕ). let r : Record = record { moment = behind.moment; bytes = b } in r ∷ []) here.payload_is)

pub left-extend : (bytes : List ℕ) (reached behind : Reached) (delta : ℕ)
    → StandsAt bytes reached.at behind.at (time_extend delta) → behind.moment ≡ reached.moment + delta
    → behind.moment < 2 ^ 64
    → records_left bytes reached ≡ records_left bytes behind
left-extend bytes reached behind delta here is fits =
    left-word bytes reached behind (time_extend delta) here (sym is) fits

pub left-stamp : (bytes : List ℕ) (reached behind : Reached)
    → StandsAt bytes reached.at behind.at (time_stamp behind.moment)
    → records_left bytes reached ≡ records_left bytes behind
left-stamp bytes reached behind here = let small = here.is_word in
    left-word bytes reached behind (time_stamp behind.moment) here (omega arith) (omega arith)

pub left-padding : (bytes : List ℕ) (reached behind : Reached) → PaddingAt bytes reached.at behind.at
    → behind.moment ≡ reached.moment → behind.moment < 2 ^ 64 → records_left bytes reached ≡ records_left bytes behind
left-padding bytes reached behind here is fits =
    left-word bytes reached behind (padding here.delta here.skipped) here.at_offset (omega arith) fits

-- ---- an end

-- there is no word here
pub left-none : (bytes : List ℕ) (reached : Reached) → word_at_front (drop reached.at bytes) ≡ None
    → records_left bytes reached ≡ []
left-none bytes reached none = ap (records_held reached.moment) (words_in-none (drop reached.at bytes) none)

-- what is here has a fault
pub left-fault : (bytes : List ℕ) (reached : Reached) (fault : WordFault) → IsFaultAt bytes reached.at fault
    → records_left bytes reached ≡ []
left-fault bytes reached fault here = left-none bytes reached (no_word_at_fault bytes reached.at fault here)

-- after the word that is here the moment doesn't fit
left-overflow : (bytes : List ℕ) (reached : Reached) (w : Word) (next : ℕ) → StandsAt bytes reached.at next w
    → 2 ^ 64 ≤ moment_behind reached.moment w → records_left bytes reached ≡ []
left-overflow bytes reached w next here past =
    ap (records_held reached.moment) (words_in-found (drop reached.at bytes) w (drop next bytes) here.found)
    ∙ held-overflows reached.moment w (words_in (drop next bytes)) past

pub left-late_data : (bytes : List ℕ) (reached : Reached) (delta : ℕ) (place : Place) (next : ℕ)
    → DataAt bytes reached.at delta place next → 2 ^ 64 ≤ reached.moment + delta → records_left bytes reached ≡ []
left-late_data bytes reached delta place next here past =
    left-overflow bytes reached here.word next here.at_offset
    (let e = data-behind reached.moment here.word here.is_data in let d = here.delta_is in omega arith)

pub left-late_extend : (bytes : List ℕ) (reached : Reached) (delta next : ℕ)
    → StandsAt bytes reached.at next (time_extend delta) → 2 ^ 64 ≤ reached.moment + delta
    → records_left bytes reached ≡ []
left-late_extend bytes reached delta next here past = left-overflow bytes reached (time_extend delta) next here past

-- ---- the front of a page

-- the moment after one word more
behind-push : (time : ℕ) (front : List Word) (w : Word)
    → moment_behind (moment_after time front) w ≡ moment_after time (front ++ w ∷ [])
behind-push time front (short_data delta payload) = sym (moment_after-push time front (short_data delta payload) refl)
behind-push time front (long_data delta payload) = sym (moment_after-push time front (long_data delta payload) refl)
behind-push time front (padding delta skipped) = sym (moment_after-push time front (padding delta skipped) refl)
behind-push time front (time_extend delta) = sym (moment_after-push time front (time_extend delta) refl)
behind-push time front (time_stamp stamp) = let e = moment_after-stamp time front stamp in omega arith

-- it fits 64 bits if each moment to which a word moves the time does
fits-push : (time : ℕ) (front : List Word) (w : Word) → IsWord w
    → (MovesTime w → moment_after time (front ++ w ∷ []) < 2 ^ 64) → moment_after time front < 2 ^ 64
    → moment_after time (front ++ w ∷ []) < 2 ^ 64
fits-push time front (short_data delta payload) is moved fits = moved tt
fits-push time front (long_data delta payload) is moved fits = moved tt
fits-push time front (padding delta skipped) is moved fits =
    let e =
    moment_after-push time front (padding delta skipped) refl in
    omega arith
fits-push time front (time_extend delta) is moved fits = moved tt
fits-push time front (time_stamp stamp) is moved fits = let e = moment_after-stamp time front stamp in omega arith

held-at : (time : ℕ) (front : List Word) (w : Word)
    → record_held (moment_after time (front ++ w ∷ [])) w ≡ records_at time front w
held-at time front (short_data delta payload) = refl
held-at time front (long_data delta payload) = refl
held-at time front (padding delta skipped) = refl
held-at time front (time_extend delta) = refl
held-at time front (time_stamp stamp) = refl

-- with the moment before them, words hold the records that they read as after these others
held-behind : (time : ℕ) (front words : List Word) → FitsTime time (front ++ words) → AllByRecursion IsWord words
    → moment_after time front < 2 ^ 64 → records_held (moment_after time front) words ≡ records_behind time front words
held-behind time front [] in_time each fits = refl
held-behind time front (w ∷ words) in_time each fits =
    let later : moment_after time (front ++ w ∷ []) < 2 ^ 64 =
    fits-push time front w each.0 (in_time front w words refl) fits in
    let more : FitsTime time ((front ++ w ∷ []) ++ words) =
    subst (FitsTime time) (sym (append_assoc front (w ∷ []) words)) in_time in
    held-fits (moment_after time front) (moment_after time (front ++ w ∷ [])) w words (behind-push time front w) later
    ∙ ap₂ (λ (a b : List Record). a ++ b) (held-at time front w)
    (held-behind time (front ++ w ∷ []) words more each.1 later)

-- at the front of data that reads all of its records are left
pub left-start : (bytes : List ℕ) (time : ℕ) (records : List Record) (reached : Reached) → Decodes bytes time records
    → time < 2 ^ 64 → reached.at ≡ 0 → reached.moment ≡ time → records_left bytes reached ≡ records_in time bytes
left-start bytes time records reached reads fits at moment =
    let words = words_in-IsJoined bytes reads.words reads.rest reads.cut in
    let from : reached.moment ≡ moment_after time [] = omega arith in
    ap₂ (λ (m n : ℕ). records_held m (words_in (drop n bytes))) from at
    ∙ ap (records_held (moment_after time [])) words
    ∙ held-behind time [] reads.words reads.in_time reads.cut.each (omega arith)
    ∙ ap (records_of time) (sym words)
