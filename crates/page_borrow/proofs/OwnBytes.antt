-- Each record of a page that reads is at its place, and its bytes are those that are there.
use Rattle.std.proofs.Common.{◌≡◌, ◌⊎◌, inl, inr, ℕ, zero, suc, ◌+◌, ◌-◌, List, [], ◌∷◌, ◌++◌, length, length-append}
use Rattle.std.proofs.Common.{take, drop, Some, refl, sym, ap, ◌∙◌, subst, ⊎_elim, arith}
use Rattle.std.specs.List.{enumerate_from, slice_get}
use Rattle.std.proofs.lemmas.Option.{none-some}
use Rattle.trace_model.specs.Record.{Record}
use Rattle.trace_model.specs.Words.{Word, short_data, long_data, padding, time_extend, time_stamp, joined, records_at}
use Rattle.trace_model.specs.Words.{records_behind, moment_after, IsJoined}
use Rattle.trace_model.specs.Reading.{IsData, payload_of, IsPlaceIn}
use Rattle.trace_model.proofs.collections.Elements.{some_is}
use Rattle.trace_model.proofs.words.Appended.{records_at-data}
use Rattle.trace_model.proofs.words.Overwritten.{head_of, bytes_of_word-data, place-payload}
use Rattle.trace_model.proofs.words.Places.{records_of-count}
use Rattle.page_image.specs.Contents.{Contents, IsPage, records_of_page}
use Rattle.page_borrow.specs.Entries.{entries_of, AllStandInPage}

-- among words after others, the one that holds the record of this index
record HoldsRecord (time : ℕ) (before words : List Word) (index : ℕ) (r : Record) : Type 0 where
  front : List Word
  word : Word
  behind : List Word
  split : words ≡ front ++ word ∷ behind
  holds : IsData word
  count : length (records_behind time before front) ≡ index
  bytes_are : r.bytes ≡ payload_of word

-- a word holds one record or none
one_or_none : (time : ℕ) (before : List Word) (w : Word) → IsData w ⊎ (records_at time before w ≡ [])
one_or_none time before (short_data delta payload) = inl tt
one_or_none time before (long_data delta payload) = inl tt
one_or_none time before (padding delta skipped) = inr refl
one_or_none time before (time_extend delta) = inr refl
one_or_none time before (time_stamp stamp) = inr refl

-- the word at the front holds it
held-here : (time : ℕ) (before words : List Word) (w : Word) (r : Record) → IsData w
    → record { moment = moment_after time (before ++ w ∷ []); bytes = payload_of w } ≡ r
    → HoldsRecord time before (w ∷ words) 0 r
held-here time before words w r is same =
    record {
      front = [];
      word = w;
      behind = words;
      split = refl;
      holds = is;
      count = refl;
      bytes_are = sym (ap (λ (s : Record). s.bytes) same);
    }

-- a word after the one at the front does
held-behind : (time : ℕ) (before words : List Word) (w : Word) (index : ℕ) (r : Record)
    → HoldsRecord time (before ++ w ∷ []) words index r
    → HoldsRecord time before (w ∷ words) (length (records_at time before w) + index) r
held-behind time before words w index r found = record {
  front = w ∷ found.front;
  word = found.word;
  behind = found.behind;
  split = ap (λ (ws : List Word). w ∷ ws) found.split;
  holds = found.holds;
  count =
      length-append (records_at time before w) (records_behind time (before ++ w ∷ []) found.front)
      ∙ ap (λ (n : ℕ). length (records_at time before w) + n) found.count;
  bytes_are = found.bytes_are;
}

-- an element is the first, or one after it
first_or_behind : {X : Type 0} (x y : X) (xs : List X) (index : ℕ) → slice_get (x ∷ xs) index ≡ Some y
    → ((index ≡ 0) × (x ≡ y)) ⊎ ((k : ℕ) × (index ≡ 1 + k) × (slice_get xs k ≡ Some y))
first_or_behind x y xs zero at = inl (refl, some_is x y at)
first_or_behind x y xs (suc k) at = inr (k, omega arith, at)

-- each record that words hold is held by one of them
word-found : (time : ℕ) (before words : List Word) (index : ℕ) (r : Record)
    → slice_get (records_behind time before words) index ≡ Some r → HoldsRecord time before words index r
word-found time before [] index r at = absurd (none-some r at)
word-found time before (w ∷ words) index r at =
    let more : List Record = records_behind time (before ++ w ∷ []) words in
    ⊎_elim
    (λ is.
    let one = records_at-data time before w is in
    ⊎_elim
    (λ first.
    subst (λ (n : ℕ). HoldsRecord time before (w ∷ words) n r) (sym first.0)
    (held-here time before words w r is first.1))
    (λ behind.
    subst (λ (n : ℕ). HoldsRecord time before (w ∷ words) n r)
    (ap (λ (rs : List Record). length rs + behind.0) one ∙ sym behind.1)
    (held-behind time before words w behind.0 r (word-found time (before ++ w ∷ []) words behind.0 r behind.2)))
    (first_or_behind _ r more index (subst (λ (rs : List Record). slice_get (rs ++ more) index ≡ Some r) one at)))
    (λ none.
    subst (λ (n : ℕ). HoldsRecord time before (w ∷ words) n r)
    (ap (λ (rs : List Record). length rs + index) none ∙ (let e : 0 + index ≡ index = omega arith in e))
    (held-behind time before words w index r
    (word-found time (before ++ w ∷ []) words index r
    (subst (λ (rs : List Record). slice_get (rs ++ more) index ≡ Some r) none at))))
    (one_or_none time before w)

-- a numbered record is the record at its index
unnumbered : (number : ℕ) (records : List Record) (index : ℕ) (entry : ℕ × Record)
    → slice_get (enumerate_from number records) index ≡ Some entry → slice_get records index ≡ Some entry.1
unnumbered number [] index entry at = absurd (none-some entry at)
unnumbered number (r ∷ records) zero entry at = ap (λ (e : ℕ × Record). Some e.1) (some_is (number, r) entry at)
unnumbered number (r ∷ records) (suc k) entry at = unnumbered (number + 1) records k entry at

-- the records of a page that reads are in it
pub all-stand : (page : Contents) → IsPage page → AllStandInPage page (entries_of page)
all-stand page is index entry at =
    let reads = is.reads in
    let found =
    word-found page.time [] reads.words index entry.1
    (subst (λ (rs : List Record). slice_get rs index ≡ Some entry.1) reads.read
    (unnumbered page.first (records_of_page page) index entry at)) in
    let start : ℕ = length (joined found.front) + length (head_of found.word) in
    let len : ℕ = length (payload_of found.word) in
    let spelled =
    ap length (bytes_of_word-data found.word found.holds)
    ∙ length-append (head_of found.word) (payload_of found.word) in
    let place : IsPlaceIn page.bytes start len = record {
      front = found.front;
      word = found.word;
      behind = found.behind;
      rest = reads.rest;
      cut = subst (λ (ws : List Word). IsJoined page.bytes ws reads.rest) found.split reads.cut;
      holds = found.holds;
      start_is = omega arith;
      len_is = refl;
    } in
    let size : len ≡ start + len - start = omega arith in
    record {
      start = start;
      len = len;
      place = record { place = place; number_is = sym found.count ∙ records_of-count page.time 0 found.front };
      bytes_is =
          found.bytes_are ∙ sym (place-payload page.bytes start len place)
          ∙ ap (λ (n : ℕ). take n (drop start page.bytes)) size;
    }
