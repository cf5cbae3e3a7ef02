-- A walk that restores the words of data one after the other.
use Rattle.std.proofs.Common.{◌≡◌, ℕ, ◌+◌, ◌%◌, ◌^◌, ◌≤◌, List, ◌∷◌, ◌++◌, length, take, drop, Some, None, refl, sym}
use Rattle.std.proofs.Common.{ap, ◌∙◌, arith, length-append, append_assoc, ltb, Bool, cond, le-ltb}
use Rattle.std.proofs.lemmas.Bool.{cond_both}
use Rattle.std.proofs.lemmas.List.{take_at, drop_at, drop-drop, take-append-drop, length-take}
use Rattle.trace_model.specs.Words.{Word, short_data, long_data, padding, time_extend, time_stamp, bytes_of_word}
use Rattle.trace_model.specs.Words.{joined, delta_of, word_time_limit}
use Rattle.trace_model.specs.Reading.{word_at_front, words_in, IsData}
use Rattle.trace_model.proofs.words.Stepped.{words_in-found, words_in-none}
use Rattle.record_words.specs.Next.{StandsAt, IsFaultAt}
use Rattle.record_words.specs.declared.next.WordFault.{WordFault}
use Rattle.record_words.specs.declared.next.WordFault.TheVariants.{Cut, BadLength, TimeOverflow}
use Rattle.capture.specs.stamps.Restored.{time_until, restored_word, restored_time, restored_words, restored_data}
use Rattle.trace_model.proofs.words.Lengths.{length-bytes_of_extend, length-bytes_of_stamp}

-- data of these words with the bytes after them
data_of : (time : ℕ) → List ℕ → List Word → List ℕ
data_of time bytes words = joined (restored_words time words) ++ drop (length (joined words)) bytes

-- where no word is at the front, nothing is restored
pub restored-none : (time : ℕ) (bytes : List ℕ) → word_at_front bytes ≡ None → restored_data time bytes ≡ bytes
unfolding data_of
restored-none time bytes none = ap (data_of time bytes) (words_in-none bytes none)

-- a word at the front is restored, and then those after it
pub restored-word : (time : ℕ) (bytes : List ℕ) (w : Word) (rest : List ℕ) → word_at_front bytes ≡ Some (w, rest)
    → bytes ≡ bytes_of_word w ++ rest
    → restored_data time bytes ≡ bytes_of_word (restored_word time w) ++ restored_data (restored_time time w) rest
unfolding data_of
restored-word time bytes w rest found stands =
    let own = bytes_of_word w in
    let more = joined (words_in rest) in
    let behind : drop (length (own ++ more)) bytes ≡ drop (length more) rest =
    ap (λ (n : ℕ). drop n bytes) (length-append own more) ∙ sym (drop-drop (length more) (length own) bytes)
    ∙ ap (λ (xs : List ℕ). drop (length more) (drop (length own) xs)) stands
    ∙ ap (drop (length more)) (drop_at own rest (length own) refl) in
    ap (data_of time bytes) (words_in-found bytes w rest found)
    ∙ ap (λ (xs : List ℕ). joined (restored_words time (w ∷ words_in rest)) ++ xs) behind
    ∙ append_assoc (bytes_of_word (restored_word time w))
    (joined (restored_words (restored_time time w) (words_in rest))) (drop (length more) rest)

-- a restored word is as long as it was
pub length-restored : (before : ℕ) (w : Word)
    → length (bytes_of_word (restored_word before w)) ≡ length (bytes_of_word w)
length-restored before (short_data delta payload) = refl
length-restored before (long_data delta payload) = refl
length-restored before (padding delta skipped) = refl
length-restored before (time_extend delta) = refl
length-restored before (time_stamp stamp) =
    cond_both (ltb before word_time_limit) (time_stamp stamp) (time_extend (time_until before stamp))
    (λ (w : Word). length (bytes_of_word w) ≡ length (bytes_of_word (time_stamp stamp)))
    (λ early. refl)
    (λ late. length-bytes_of_extend (time_until before stamp) ∙ sym (length-bytes_of_stamp stamp))

-- the word of a record stays, and the time moves by its delta
pub record-stays : (before : ℕ) (w : Word) → IsData w
    → (restored_word before w ≡ w) × (restored_time before w ≡ (before + delta_of w) % 2 ^ 64)
record-stays before (short_data delta payload) is_data = (refl, refl)
record-stays before (long_data delta payload) is_data = (refl, refl)
record-stays before (padding delta skipped) is_data = absurd is_data
record-stays before (time_extend delta) is_data = absurd is_data
record-stays before (time_stamp stamp) is_data = absurd is_data

-- a stamp after a time with bits above the 59 is restored
pub restored-late : (before stamp : ℕ) → word_time_limit ≤ before
    → restored_word before (time_stamp stamp) ≡ time_extend (time_until before stamp)
restored-late before stamp late =
    ap (λ (early : Bool). cond early (time_stamp stamp) (time_extend (time_until before stamp)))
    (le-ltb before word_time_limit late)

-- where a fault is, no word is
pub none-of_fault : (bytes : List ℕ) (at : ℕ) (fault : WordFault) → IsFaultAt bytes at fault
    → word_at_front (drop at bytes) ≡ None
none-of_fault bytes at (Cut named) faulty = faulty.none_found
none-of_fault bytes at (BadLength named) faulty = faulty.none_found
none-of_fault bytes at (TimeOverflow named) faulty = absurd faulty

-- Up to `at` all is restored; the word there is too, by what is put in its place, so all is up to `next`.
pub restored-on : (all was is : List ℕ) (before at next : ℕ) (w : Word) → StandsAt was at next w
    → take at is ≡ take at was → drop at is ≡ bytes_of_word (restored_word before w) ++ drop next was
    → all ≡ take at was ++ restored_data before (drop at was)
    → (next ≤ length is) × (all ≡ take next is ++ restored_data (restored_time before w) (drop next is))
restored-on all was is before at next w stands front behind done =
    let own = bytes_of_word (restored_word before w) in
    let rest = drop next was in
    let cut : is ≡ (take at was ++ own) ++ rest =
    sym (take-append-drop at is) ∙ ap (λ (xs : List ℕ). xs ++ drop at is) front
    ∙ ap (λ (xs : List ℕ). take at was ++ xs) behind ∙ sym (append_assoc (take at was) own rest) in
    let long : length (take at was ++ own) ≡ next =
    length-append (take at was) own
    ∙ omega (arith, length-take at was, length-restored before w, stands.next_is, stands.behind, stands.within) in
    let whole : all ≡ (take at was ++ own) ++ restored_data (restored_time before w) rest =
    done
    ∙ ap (λ (xs : List ℕ). take at was ++ xs) (restored-word before (drop at was) w rest stands.found stands.stands)
    ∙ sym (append_assoc (take at was) own (restored_data (restored_time before w) rest)) in
    let first : take next is ≡ take at was ++ own = ap (take next) cut ∙ take_at (take at was ++ own) rest next long in
    let last : drop next is ≡ rest = ap (drop next) cut ∙ drop_at (take at was ++ own) rest next long in
    let lengths = ap (length {A = ℕ}) cut ∙ length-append (take at was ++ own) rest in (
      omega (arith, lengths, long),
      whole ∙ ap (λ (xs : List ℕ). xs ++ restored_data (restored_time before w) rest) (sym first)
          ∙ ap (λ (xs : List ℕ). take next is ++ restored_data (restored_time before w) xs) (sym last),
    )

-- where no word is at an offset, all is restored
pub restored-end : (all was : List ℕ) (before at : ℕ) → word_at_front (drop at was) ≡ None
    → all ≡ take at was ++ restored_data before (drop at was) → was ≡ all
restored-end all was before at none done =
    sym (done ∙ ap (λ (xs : List ℕ). take at was ++ xs) (restored-none before (drop at was) none)
    ∙ take-append-drop at was)
