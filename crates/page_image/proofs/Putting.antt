-- A record put after those of a page.
use Rattle.std.proofs.Common.{◌≡◌, ℕ, ◌+◌, ◌-◌, ◌%◌, ◌^◌, ◌<◌, ◌≤◌, Bool, true, false, cond, leb, ltb, List, []}
use Rattle.std.proofs.Common.{◌∷◌, ◌++◌, length, Option, Some, IfSome, refl, sym, ap, ◌∙◌, subst, ⊎_elim, arith}
use Rattle.std.proofs.Common.{append_assoc, length-append}
use Rattle.std.specs.List.{AllByRecursion}
use Rattle.std.proofs.lemmas.List.{append-nil}
use Rattle.std.proofs.lemmas.List.Concat.{flat_map-append}
use Rattle.trace_model.specs.declared.limits.TheConstants.{MOMENT_LIMIT}
use Rattle.trace_model.specs.Record.{Record}
use Rattle.trace_model.specs.Words.{Word, short_data, long_data, time_extend, bytes_of_word, IsWord, joined, data_word}
use Rattle.trace_model.specs.Words.{written_words, encoding, encoded_len, slot_len, Decodes, records_of, moment_after}
use Rattle.trace_model.specs.Words.{delta_of}
use Rattle.trace_model.specs.Reading.{IsData, payload_of, records_in, EndsInRecord, IsPlaceIn}
use Rattle.trace_model.specs.Order.{moment_of_last, EndsAt}
use Rattle.trace_model.proofs.words.Lengths.{slot_len_ge_four, slot_len-mod, bytes_of_word_ge}
use Rattle.trace_model.proofs.words.Unique.{records_in-Decodes, words_in-IsJoined}
use Rattle.trace_model.proofs.words.Appended.{data_word-delta, moment_after-push, moment_after-last, Decodes-first}
use Rattle.trace_model.proofs.words.Appended.{Decodes-appended, EndsInRecord-first, EndsInRecord-appended}
use Rattle.trace_model.proofs.words.Appended.{moment_of_last-push, IsJoined-whole, records_of-push_data, each-append}
use Rattle.trace_model.proofs.words.Appended.{written-each, data_word-IsWord}
use Rattle.trace_model.specs.Overwriting.{IsPlaceOf}
use Rattle.trace_model.proofs.words.Places.{IsPlaceOf-appended, IsPlaceOf-first, IsPlaceOf-new}
use Rattle.record_words.specs.declared.put.Place.{Place}
use Rattle.page_image.specs.Contents.{Contents, IsPage, records_of_page, is_blank}
use Rattle.page_image.specs.Putting.{HasPut}
use Rattle.page_image.proofs.Blank.{records_in-blank}

-- what comes before the data that is written
written_front : ℕ → Bool → List Word
written_front delta true = []
written_front delta false = cond (ltb delta (2 ^ 27)) [] (time_extend delta ∷ [])

-- the delta of that data
written_delta : ℕ → Bool → ℕ
written_delta delta true = 0
written_delta delta false = cond (ltb delta (2 ^ 27)) delta 0

written_words-split : (delta : ℕ) (first : Bool) (payload : List ℕ)
    → written_words delta first payload
    ≡ written_front delta first ++ data_word (written_delta delta first) payload ∷ []
unfolding written_front written_delta
written_words-split delta true payload = refl
written_words-split delta false payload = by_test (ltb delta (2 ^ 27))
  where
    by_test : (short : Bool)
        → cond short (data_word delta payload ∷ []) (time_extend delta ∷ data_word 0 payload ∷ [])
        ≡ cond short [] (time_extend delta ∷ []) ++ data_word (cond short delta 0) payload ∷ []
    by_test true = refl
    by_test false = refl

data_word-holds : (delta : ℕ) (payload : List ℕ)
    → IsData (data_word delta payload) × (payload_of (data_word delta payload) ≡ payload)
data_word-holds delta payload = by_test (leb (length payload) 112)
  where
    by_test : (short : Bool)
        → IsData (cond short (short_data delta payload) (long_data delta payload))
        × (payload_of (cond short (short_data delta payload) (long_data delta payload)) ≡ payload)
    by_test true = (tt, refl)
    by_test false = (tt, refl)

-- the payload of the last word of data that ends in a record
pub last_place : (bytes : List ℕ) (front : List Word) (w : Word) (start len : ℕ) → bytes ≡ joined (front ++ w ∷ [])
    → AllByRecursion IsWord (front ++ w ∷ []) → IsData w → len ≡ length (payload_of w) → start + len ≡ length bytes
    → IsPlaceIn bytes start len
last_place bytes front w start len whole each holds len_is end_is = record {
  front = front;
  word = w;
  behind = [];
  rest = [];
  cut = IsJoined-whole bytes (front ++ w ∷ []) whole each;
  holds = holds;
  start_is =
      let split : length (joined (front ++ w ∷ [])) ≡ length (joined front) + length (bytes_of_word w) =
      ap length (flat_map-append bytes_of_word front (w ∷ [])) ∙ length-append (joined front) (bytes_of_word w ++ [])
      ∙ ap (λ (b : List ℕ). length (joined front) + length b) (append-nil (bytes_of_word w)) in
      omega (arith, ap length whole);
  len_is = len_is;
}

-- the place of the payload that was written after whole words
place_behind : (bytes : List ℕ) (words : List Word) (delta : ℕ) (first : Bool) (payload : List ℕ) (start : ℕ)
    → bytes ≡ joined words → AllByRecursion IsWord (words ++ written_words delta first payload)
    → start + length payload ≡ length (bytes ++ encoding delta first payload)
    → IsPlaceIn (bytes ++ encoding delta first payload) start (length payload)
place_behind bytes words delta first payload start whole each end_is =
    let d : ℕ = written_delta delta first in
    let split : words ++ written_words delta first payload
    ≡ (words ++ written_front delta first) ++ data_word d payload ∷ [] =
    ap (λ (ws : List Word). words ++ ws) (written_words-split delta first payload)
    ∙ sym (append_assoc words (written_front delta first) (data_word d payload ∷ [])) in
    let all : bytes ++ encoding delta first payload ≡ joined (words ++ written_words delta first payload) =
    ap (λ (b : List ℕ). b ++ encoding delta first payload) whole
    ∙ sym (flat_map-append bytes_of_word words (written_words delta first payload)) in
    last_place (bytes ++ encoding delta first payload) (words ++ written_front delta first) (data_word d payload) start
    (length payload)
    (all ∙ ap joined split)
    (subst (AllByRecursion IsWord) split each)
    (data_word-holds d payload).0
    (sym (ap length (data_word-holds d payload).1))
    end_is

has_last : (records : List Record) (r : Record) (prev : ℕ)
    → IfSome (moment_of_last (records ++ r ∷ [])) (λ last. last ≡ prev) → EndsAt (records ++ r ∷ []) prev
has_last records r prev behind =
    let there : moment_of_last (records ++ r ∷ []) ≡ Some r.moment = moment_of_last-push records r in
    let P : Option ℕ → Type 0 = λ o. IfSome o (λ (last : ℕ). last ≡ prev) in
    let same : r.moment ≡ prev = subst P there behind in
    there ∙ ap (λ (m : ℕ). Some m) same

-- data that is whole words reads as their records
reads_words : (bytes : List ℕ) (time : ℕ) (words : List Word) → bytes ≡ joined words → AllByRecursion IsWord words
    → records_in time bytes ≡ records_of time words
reads_words bytes time words whole each =
    ap (records_of time) (words_in-IsJoined bytes words [] (IsJoined-whole bytes words whole each))

-- data that isn't empty and ends in a record has a last record
ends_at : (byte : ℕ) (bytes : List ℕ) (time prev : ℕ) → EndsInRecord (byte ∷ bytes)
    → IfSome (moment_of_last (records_in time (byte ∷ bytes))) (λ last. last ≡ prev)
    → EndsAt (records_in time (byte ∷ bytes)) prev
ends_at byte bytes time prev ends behind = ⊎_elim
    (λ none. absurd (let no_bytes : byte ∷ bytes ≡ [] = ends.whole ∙ ap joined none in cc))
    (λ last.
    let push : records_in time (byte ∷ bytes)
    ≡ records_of time last.0
    ++ record { moment = moment_after time last.0 + delta_of last.1; bytes = payload_of last.1 } ∷ [] =
    reads_words (byte ∷ bytes) time ends.words ends.whole ends.each ∙ ap (records_of time) last.2
    ∙ records_of-push_data time last.0 last.1 last.3 in
    let P : List Record → Type 0 = λ rs. IfSome (moment_of_last rs) (λ (m : ℕ). m ≡ prev) in
    let Q : List Record → Type 0 = λ rs. EndsAt rs prev in
    subst Q (sym push) (has_last (records_of time last.0) _ prev (subst P push behind)))
    ends.last

-- the moment of the record that is written after words
moment_there : (time delta : ℕ) (words : List Word)
    → moment_after time (words ++ written_front delta false) + written_delta delta false
    ≡ moment_after time words + delta
unfolding written_front written_delta
moment_there time delta words = by_test (ltb delta (2 ^ 27))
  where
    by_test : (short : Bool)
        → moment_after time (words ++ cond short [] (time_extend delta ∷ [])) + cond short delta 0
        ≡ moment_after time words + delta
    by_test true = ap (λ (ws : List Word). moment_after time ws + delta) (append-nil words)
    by_test false = let h = moment_after-push time words (time_extend delta) refl in omega arith

-- it is the moment of the last record
newest_behind : (bytes : List ℕ) (words : List Word) (time delta moment : ℕ) (first : Bool) (payload : List ℕ)
    → bytes ≡ joined words → AllByRecursion IsWord (words ++ written_words delta first payload)
    → moment_after time (words ++ written_front delta first) + written_delta delta first ≡ moment
    → EndsAt (records_in time (bytes ++ encoding delta first payload)) moment
newest_behind bytes words time delta moment first payload whole each there =
    let d : ℕ = written_delta delta first in
    let front : List Word = words ++ written_front delta first in
    let split : words ++ written_words delta first payload ≡ front ++ data_word d payload ∷ [] =
    ap (λ (ws : List Word). words ++ ws) (written_words-split delta first payload)
    ∙ sym (append_assoc words (written_front delta first) (data_word d payload ∷ [])) in
    let all : bytes ++ encoding delta first payload ≡ joined (words ++ written_words delta first payload) =
    ap (λ (b : List ℕ). b ++ encoding delta first payload) whole
    ∙ sym (flat_map-append bytes_of_word words (written_words delta first payload)) in
    ap moment_of_last
    (reads_words (bytes ++ encoding delta first payload) time (words ++ written_words delta first payload) all each
    ∙ ap (records_of time) split
    ∙ records_of-push_data time front (data_word d payload) (data_word-holds d payload).0)
    ∙ moment_of_last-push (records_of time front)
    record {
      moment = moment_after time front + delta_of (data_word d payload);
      bytes = payload_of (data_word d payload);
    }
    ∙ ap (λ (m : ℕ). Some m) (ap (λ (n : ℕ). moment_after time front + n) (data_word-delta d payload) ∙ there)

-- What the data becomes when a record with this payload is put after it: its end, and the payload's place.
pub record PutEnd (bytes : List ℕ) (prev moment : ℕ) (payload : List ℕ) : Type 0 where
  pub ends : EndsInRecord (bytes ++ encoding (moment - prev) (is_blank bytes) payload)
  pub place : (start : ℕ) → start + length payload ≡ length (bytes ++ encoding (moment - prev) (is_blank bytes) payload)
      → IsPlaceIn (bytes ++ encoding (moment - prev) (is_blank bytes) payload) start (length payload)

-- a payload that fills its slot can be written
pub record IsSlot (payload : List ℕ) : Type 0 where
  pub whole : length payload % 4 ≡ 0
  pub some : 4 ≤ length payload
  pub fits : length payload + 4 < 2 ^ 32

pub IsSlot-of : (payload : List ℕ) (len : ℕ) → length payload ≡ slot_len len → len ≤ 2 ^ 30 → IsSlot payload
IsSlot-of payload len size limit =
    record {
      whole = ap (λ (n : ℕ). n % 4) size ∙ slot_len-mod len;
      some = omega (arith, slot_len_ge_four len);
      fits = omega arith;
    }

pub put_end : (bytes : List ℕ) (prev moment : ℕ) (payload : List ℕ) → EndsInRecord bytes → moment < MOMENT_LIMIT
    → IsSlot payload → PutEnd bytes prev moment payload
put_end [] prev moment payload ends small slot =
    record {
      ends = EndsInRecord-first (moment - prev) payload slot.whole slot.some slot.fits;
      place =
          λ start end_is.
          place_behind [] [] (moment - prev) true payload start refl
          (data_word-IsWord 0 payload (omega arith) slot.whole slot.some slot.fits, tt) end_is;
    }
put_end (byte ∷ bytes) prev moment payload ends small slot =
    record {
      ends =
          EndsInRecord-appended (byte ∷ bytes) (moment - prev) payload ends (omega arith) slot.whole slot.some
          slot.fits;
      place =
          λ start end_is.
          place_behind (byte ∷ bytes) ends.words (moment - prev) false payload start ends.whole
          (each-append ends.words _ ends.each
          (written-each (moment - prev) payload (omega arith) slot.whole slot.some slot.fits)) end_is;
    }

pub put_data : (bytes : List ℕ) (time prev moment : ℕ) (payload : List ℕ) → EndsInRecord bytes
    → Decodes bytes time (records_in time bytes) → IfSome (moment_of_last (records_in time bytes)) (λ last. last ≡ prev)
    → prev ≤ moment → moment < MOMENT_LIMIT → IsSlot payload
    → Decodes (bytes ++ encoding (moment - prev) (is_blank bytes) payload) (cond (is_blank bytes) moment time)
    (records_in time bytes ++ record { moment = moment; bytes = payload } ∷ [])
put_data [] time prev moment payload ends reads behind order small slot =
    subst
    (λ (rs : List Record).
    Decodes (encoding (moment - prev) true payload) moment
    (rs ++ record { moment = moment; bytes = payload } ∷ [])) (sym (records_in-blank time))
    (Decodes-first moment (moment - prev) payload (omega arith) slot.whole slot.some slot.fits)
put_data (byte ∷ bytes) time prev moment payload ends reads behind order small slot =
    let there : prev + (moment - prev) ≡ moment = omega arith in
    subst
    (λ (m : ℕ).
    Decodes ((byte ∷ bytes) ++ encoding (moment - prev) false payload) time
    (records_in time (byte ∷ bytes) ++ record { moment = m; bytes = payload } ∷ [])) there
    (Decodes-appended (byte ∷ bytes) time (records_in time (byte ∷ bytes)) prev (moment - prev) payload ends reads
    (ends_at byte bytes time prev ends behind) (omega arith) (omega arith) slot.whole slot.some slot.fits)

first_there : (moment delta : ℕ)
    → moment_after moment ([] ++ written_front delta true) + written_delta delta true ≡ moment
unfolding written_front written_delta
first_there moment delta = omega arith

-- a record that is put is the last one
newest : (bytes : List ℕ) (time prev moment : ℕ) (payload : List ℕ) → EndsInRecord bytes
    → IfSome (moment_of_last (records_in time bytes)) (λ last. last ≡ prev) → prev ≤ moment → moment < MOMENT_LIMIT
    → IsSlot payload
    → EndsAt
    (records_in (cond (is_blank bytes) moment time) (bytes ++ encoding (moment - prev) (is_blank bytes) payload))
    moment
newest [] time prev moment payload ends behind order small slot =
    newest_behind [] [] moment (moment - prev) moment true payload refl
    (data_word-IsWord 0 payload (omega arith) slot.whole slot.some slot.fits, tt)
    (first_there moment (moment - prev))
newest (byte ∷ bytes) time prev moment payload ends behind order small slot =
    let read = reads_words (byte ∷ bytes) time ends.words ends.whole ends.each in
    let last : moment_after time ends.words ≡ prev =
    moment_after-last (byte ∷ bytes) time (records_in time (byte ∷ bytes)) prev ends read
    (ends_at byte bytes time prev ends behind) in
    newest_behind (byte ∷ bytes) ends.words time (moment - prev) moment false payload ends.whole
    (each-append ends.words _ ends.each
    (written-each (moment - prev) payload (omega arith) slot.whole slot.some slot.fits))
    (moment_there time (moment - prev) ends.words ∙ (omega arith))

-- a record's encoding has more than four bytes
pub encoded_len_ge : (len delta : ℕ) (first : Bool) → 4 ≤ encoded_len len delta first
encoded_len_ge len delta first = omega (arith, slot_len_ge_four len)

fits_either : (first : Bool) (time moment old : ℕ) → time ≡ cond first moment old → moment < 2 ^ 64 → old < 2 ^ 64
    → time < 2 ^ 64
fits_either true time moment old time_is small page = omega arith
fits_either false time moment old time_is small page = omega arith

-- no payload is in no bytes
no_place : (number start len : ℕ) → IsPlaceOf [] number start len → ⊥
no_place number start len there =
    let p = there.place in
    let some = bytes_of_word_ge p.word in
    let none : 0 ≡ length (joined (p.front ++ p.word ∷ p.behind) ++ p.rest) = ap length p.cut.whole in
    let split : length (joined (p.front ++ p.word ∷ p.behind))
    ≡ length (joined p.front) + (length (bytes_of_word p.word) + length (joined p.behind)) =
    ap length (flat_map-append bytes_of_word p.front (p.word ∷ p.behind))
    ∙ length-append (joined p.front) (bytes_of_word p.word ++ joined p.behind)
    ∙ ap (λ (n : ℕ). length (joined p.front) + n) (length-append (bytes_of_word p.word) (joined p.behind)) in
    absurd (omega (arith, length-append (joined (p.front ++ p.word ∷ p.behind)) p.rest))

put_places_stay : (bytes : List ℕ) (prev moment : ℕ) (payload : List ℕ) → EndsInRecord bytes → moment < MOMENT_LIMIT
    → IsSlot payload → (number at size : ℕ) → IsPlaceOf bytes number at size
    → IsPlaceOf (bytes ++ encoding (moment - prev) (is_blank bytes) payload) number at size
put_places_stay [] prev moment payload ends small slot number at size there = absurd (no_place number at size there)
put_places_stay (byte ∷ bytes) prev moment payload ends small slot number at size there =
    IsPlaceOf-appended (byte ∷ bytes) number at size (moment - prev) payload ends there (omega arith) slot.whole
    slot.some slot.fits

put_number : (bytes : List ℕ) (time prev moment : ℕ) (payload : List ℕ) (start : ℕ) → EndsInRecord bytes
    → Decodes bytes time (records_in time bytes) → moment < MOMENT_LIMIT → IsSlot payload
    → start + length payload ≡ length (bytes ++ encoding (moment - prev) (is_blank bytes) payload)
    → IsPlaceOf (bytes ++ encoding (moment - prev) (is_blank bytes) payload) (length (records_in time bytes)) start
    (length payload)
put_number [] time prev moment payload start ends reads small slot end_is =
    subst (λ (n : ℕ). IsPlaceOf (encoding (moment - prev) true payload) n start (length payload))
    (sym (ap length (records_in-blank time)))
    (IsPlaceOf-first (moment - prev) payload start slot.whole slot.some slot.fits end_is)
put_number (byte ∷ bytes) time prev moment payload start ends reads small slot end_is =
    IsPlaceOf-new (byte ∷ bytes) time (records_in time (byte ∷ bytes)) (moment - prev) payload start ends reads
    (omega arith) slot.whole slot.some slot.fits end_is

-- data of some length isn't blank
pub not_blank : (bytes : List ℕ) → 4 ≤ length bytes → is_blank bytes ≡ false
not_blank [] some = absurd (omega arith)
not_blank (byte ∷ bytes) some = refl

-- a payload's place has a number
pub place_of : (bytes : List ℕ) (start len : ℕ) → (place : IsPlaceIn bytes start len)
    → IsPlaceOf bytes (length (records_of 0 place.front)) start len
place_of bytes start len place = record { place = place; number_is = refl }

-- The page after a record was put, whatever else of it has changed.
pub has_put : (old new : Contents) (prev moment len : ℕ) (payload : List ℕ) (at : Place) → EndsInRecord old.bytes
    → IfSome (moment_of_last (records_of_page old)) (λ last. last ≡ prev) → prev ≤ moment → moment < MOMENT_LIMIT
    → len ≤ 2 ^ 30 → length payload ≡ slot_len len
    → new.bytes ≡ old.bytes ++ encoding (moment - prev) (is_blank old.bytes) payload
    → length new.bytes ≡ length old.bytes + encoded_len len (moment - prev) (is_blank old.bytes)
    → new.time ≡ cond (is_blank old.bytes) moment old.time → new.count ≡ old.count + 1 → new.first ≡ old.first
    → new.fill ≡ old.fill → new.size ≡ old.size → at.start + at.len ≡ length new.bytes → at.len ≡ slot_len len
    → HasPut old new prev moment len payload at
has_put old new prev moment len payload at ends last order small limit size bytes_is longer time_is count_is first_is
    fill_is size_is end_is len_is =
    let start : ℕ = at.start in
    let size_at : length payload ≡ at.len = size ∙ sym len_is in
    let r : Record = record { moment = moment; bytes = payload } in
    let slot : IsSlot payload = IsSlot-of payload len size limit in
    let end = put_end old.bytes prev moment payload ends small slot in
    let there : start + length payload ≡ length (old.bytes ++ encoding (moment - prev) (is_blank old.bytes) payload) =
    ap (λ (n : ℕ). start + n) size_at ∙ end_is ∙ ap length bytes_is in
    let reads : IsPage old → Decodes new.bytes new.time (records_of_page old ++ r ∷ []) = λ page.
    subst (λ (t : ℕ). Decodes new.bytes t (records_of_page old ++ r ∷ [])) (sym time_is)
    (subst (λ (b : List ℕ). Decodes b (cond (is_blank old.bytes) moment old.time) (records_of_page old ++ r ∷ []))
    (sym bytes_is) (put_data old.bytes old.time prev moment payload ends page.reads last order small slot)) in
    let now : IsPage old → records_of_page new ≡ records_of_page old ++ r ∷ [] =
    λ page. records_in-Decodes new.bytes new.time (records_of_page old ++ r ∷ []) (reads page) in
    let stay : (number at size : ℕ) → IsPlaceOf old.bytes number at size → IsPlaceOf new.bytes number at size =
    λ number at size was.
    subst (λ (b : List ℕ). IsPlaceOf b number at size) (sym bytes_is)
    (put_places_stay old.bytes prev moment payload ends small slot number at size was) in
    record {
      page = λ page. record {
        reads = subst (Decodes new.bytes new.time) (sym (now page)) (reads page);
        counted =
            let one : length (records_of_page new) ≡ length (records_of_page old) + 1 =
            ap length (now page) ∙ length-append (records_of_page old) (r ∷ []) in
            omega (arith, page.counted);
        in_time = fits_either (is_blank old.bytes) new.time moment old.time time_is (omega arith) page.in_time;
      };
      records = now;
      bytes = bytes_is;
      time = time_is;
      count = count_is;
      first = first_is;
      fill = fill_is;
      size = size_is;
      longer = longer;
      filled = not_blank new.bytes (omega (arith, longer, encoded_len_ge len (moment - prev) (is_blank old.bytes)));
      ends = subst EndsInRecord (sym bytes_is) end.ends;
      place =
          subst (λ (n : ℕ). IsPlaceIn new.bytes start n) size_at
          (subst (λ (b : List ℕ). IsPlaceIn b start (length payload)) (sym bytes_is) (end.place start there));
      number =
          λ page.
          subst (λ (n : ℕ). IsPlaceOf new.bytes old.count start n) size_at
          (subst (λ (b : List ℕ). IsPlaceOf b old.count start (length payload)) (sym bytes_is)
          (subst
          (λ (n : ℕ).
          IsPlaceOf (old.bytes ++ encoding (moment - prev) (is_blank old.bytes) payload) n start (length payload))
          (sym page.counted)
          (put_number old.bytes old.time prev moment payload start ends page.reads small slot there)));
      places_stay = stay;
      payloads_stay = λ at size was. (stay _ at size (place_of old.bytes at size was)).place;
      last = subst (λ (o : Option ℕ). IfSome o (λ last. last ≡ moment))
          (sym (ap (λ (b : List ℕ). moment_of_last (records_in new.time b)) bytes_is
          ∙ ap
          (λ (t : ℕ).
          moment_of_last
          (records_in t (old.bytes ++ encoding (moment - prev) (is_blank old.bytes) payload))) time_is
          ∙ newest old.bytes old.time prev moment payload ends last order small slot)) refl;
      end = end_is;
      len_is = len_is;
    }
