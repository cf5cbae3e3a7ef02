-- The entries that a walk still comes by: one more of them, or none.
use Rattle.std.proofs.Common.{◌≡◌, ℕ, zero, suc, ◌+◌, ◌-◌, ◌<◌, ◌≤◌, List, [], ◌∷◌, ◌++◌, length, take, drop}
use Rattle.std.proofs.Common.{slice_range, Some, refl, ap, ◌∙◌, arith}
use Rattle.std.specs.List.{enumerate_from}
use Rattle.std.proofs.lemmas.List.{take_all, drop_all}
use Rattle.trace_model.specs.Record.{Record}
use Rattle.trace_model.specs.Reading.{words_in}
use Rattle.trace_model.proofs.words.OneWord.{word_at_front-nil}
use Rattle.trace_model.proofs.words.Stepped.{words_in-none}
use Rattle.record_words.specs.declared.put.Place.{Place}
use Rattle.page_image.specs.declared.walk.Reached.{Reached}
use Rattle.page_image.specs.Walk.{records_held, records_at_place, records_left}
use Rattle.page_image.specs.Contents.{Contents, IsPage, records_of_page}
use Rattle.page_borrow.specs.Entries.{entries_of, entries_left}

-- a record that is stepped over is the first of the entries that are left
pub left-first : (bytes : List ℕ) (reached behind : Reached) (place : Place) (number end : ℕ) → number < end
    → records_left bytes reached ≡ records_at_place bytes behind.moment (Some place) ++ records_left bytes behind
    → entries_left bytes reached number end
    ≡ (number, record { moment = behind.moment; bytes = slice_range bytes place.start (place.start + place.len) })
    ∷ entries_left bytes behind (number + 1) end
left-first bytes reached behind place number end more is =
    let count : end - number ≡ suc (end - (number + 1)) = omega arith in
    let len : place.len ≡ place.start + place.len - place.start = omega arith in
    ap (λ (k : ℕ). enumerate_from number (take k (records_left bytes reached))) count
    ∙ ap (λ (rs : List Record). enumerate_from number (take (suc (end - (number + 1))) rs)) is
    ∙ ap
    (λ (n : ℕ). let r : Record = record { moment = behind.moment; bytes = take n (drop place.start bytes) } in
    (number, r) ∷ entries_left bytes behind (number + 1) end) len

-- where no record is left, there is no entry
pub left-none : (bytes : List ℕ) (reached : Reached) (number end : ℕ) → records_left bytes reached ≡ []
    → entries_left bytes reached number end ≡ []
left-none bytes reached number end none =
    ap (λ (rs : List Record). enumerate_from number (take (end - number) rs)) none ∙ take_nil (end - number)
  where
    take_nil : (k : ℕ) → enumerate_from {X = Record} number (take k []) ≡ []
    take_nil zero = refl
    take_nil (suc k) = refl

-- nor where all numbers are used
pub left-ended : (bytes : List ℕ) (reached : Reached) (number end : ℕ) → end ≤ number
    → entries_left bytes reached number end ≡ []
left-ended bytes reached number end past =
    let count : end - number ≡ 0 = omega arith in
    ap (λ (k : ℕ). enumerate_from number (take k (records_left bytes reached))) count

-- nor where all of the data is read
pub left-all : (bytes : List ℕ) (reached : Reached) (number end : ℕ) → length bytes ≤ reached.at
    → entries_left bytes reached number end ≡ []
left-all bytes reached number end past = left-none bytes reached number end
    (ap (λ (b : List ℕ). records_held reached.moment (words_in b)) (drop_all reached.at bytes past)
    ∙ ap (records_held reached.moment) (words_in-none [] word_at_front-nil))

-- at the front of a page that reads all of its records are left
pub left-whole : (page : Contents) (reached : Reached) → IsPage page
    → records_left page.bytes reached ≡ records_of_page page
    → entries_left page.bytes reached page.first (page.first + page.count) ≡ entries_of page
left-whole page reached is left =
    let count = is.counted in
    let all : take (page.first + page.count - page.first) (records_of_page page) ≡ records_of_page page =
    take_all (page.first + page.count - page.first) (records_of_page page) (omega arith) in
    ap (λ (rs : List Record). enumerate_from page.first (take (page.first + page.count - page.first) rs)) left
    ∙ ap (λ (rs : List Record). enumerate_from page.first rs) all
