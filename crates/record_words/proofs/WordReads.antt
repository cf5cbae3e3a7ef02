-- From what is at the front of the bytes from an offset on to what a read there answers.
use Rattle.std.proofs.Common.{◌≡◌, ℕ, ◌+◌, ◌-◌, ◌*◌, ◌%◌, ◌^◌, ◌<◌, ◌≤◌, ◌⊎◌, ◌↔◌, inl, inr, ⊎_elim, true, false, List}
use Rattle.std.proofs.Common.{length, take, drop, Some, Result, Ok, Err, IsOk, IfOk, IfErr, refl, sym, ap, ◌∙◌, subst}
use Rattle.std.proofs.Common.{arith, length-append, length-drop, length-take-le}
use Rattle.std.proofs.lemmas.List.{drop-drop}
use Rattle.std.proofs.lemmas.Bool.{false≢true, cases_lt}
use Rattle.trace_model.specs.Words.{Word, bytes_of_word, short_data, long_data, padding, time_extend, time_stamp}
use Rattle.trace_model.specs.Words.{delta_of}
use Rattle.trace_model.specs.Reading.{from_le32, word_at_front, IsData, payload_of}
use Rattle.trace_model.specs.Faults.{Cause, cut, bad_length, type_at_front, delta_at_front, number_behind, CountsWords}
use Rattle.trace_model.specs.Faults.{StatesLength, HasHighBits, HasGoodLength, IsWordFault, HasWord, HasEnding}
use Rattle.trace_model.specs.FirstFault.{AreBytes}
use Rattle.trace_model.proofs.words.Lengths.{bytes_of_word_ge}
use Rattle.trace_model.proofs.words.OneWord.{AreBytes-drop, from_le32-take, word_at_front-found}
use Rattle.trace_model.proofs.words.WordFaults.{front-fault, head_whole, length_good, short_good, front-short}
use Rattle.trace_model.proofs.words.WordFaults.{front-long, front-padding, front-extend, front-stamp, front-ending}
use Rattle.trace_model.proofs.words.WordFaults.{HasEnding-from_head, HasWord-some, HasWord-HasFault, HasEnding-HasFault}
use Rattle.trace_model.proofs.words.WordFaults.{IsWordFault-same}
use Rattle.record_words.specs.Next.{StandsAt, DataAt, PaddingAt, EndingAt, FaultyAt, IsWordRead, IsFaultAt}
use Rattle.record_words.specs.declared.next.Word.{Word as WordAnswer}
use Rattle.record_words.specs.declared.next.Word.TheVariants.{Data, Pad, End, Extend, Stamp}
use Rattle.record_words.specs.declared.next.WordFault.{WordFault}
use Rattle.record_words.specs.declared.next.WordFault.TheVariants.{Cut, BadLength, TimeOverflow}

pub faulty : (bytes : List ℕ) (at : ℕ) (cause : Cause) → IsWordFault (drop at bytes) cause → FaultyAt bytes at at cause
faulty bytes at cause fault =
    record { offset = refl; fault = fault; none_found = front-fault (drop at bytes) cause fault }

-- a length is stated, and there is no room for it
pub faulty_no_number : (bytes : List ℕ) (at : ℕ) → at + 4 ≤ length bytes → length bytes < at + 8
    → StatesLength (drop at bytes) ⊎ HasHighBits (drop at bytes) → FaultyAt bytes at at cut
faulty_no_number bytes at head short needs =
    faulty bytes at cut (inl (inr (omega (arith, length-drop at bytes), omega (arith, length-drop at bytes), needs)))

pub faulty_length : (bytes : List ℕ) (at : ℕ) → at + 8 ≤ length bytes → StatesLength (drop at bytes)
    → (number_behind (drop at bytes) < 4) ⊎ (number_behind (drop at bytes) % 4 ≡ 0 → ⊥)
    → FaultyAt bytes at at bad_length
faulty_length bytes at long states bad =
    let head : 8 ≤ length (drop at bytes) = omega (arith, length-drop at bytes) in
    faulty bytes at bad_length (head_whole (drop at bytes) head, (head, states, bad))

pub faulty_past : (bytes : List ℕ) (at : ℕ) → at + 8 ≤ length bytes → StatesLength (drop at bytes)
    → 4 ≤ number_behind (drop at bytes) → number_behind (drop at bytes) % 4 ≡ 0
    → length bytes < at + 4 + number_behind (drop at bytes) → FaultyAt bytes at at cut
faulty_past bytes at long states least whole past =
    faulty bytes at cut
    (inr (
      length_good (drop at bytes) least whole,
      inr (omega (arith, length-drop at bytes), states, omega (arith, length-drop at bytes)),
    ))

pub faulty_short : (bytes : List ℕ) (at : ℕ) → at + 4 ≤ length bytes → CountsWords (drop at bytes)
    → length bytes < at + 4 + 4 * type_at_front (drop at bytes) → FaultyAt bytes at at cut
faulty_short bytes at head counts past =
    faulty bytes at cut
    (inr (
      short_good (drop at bytes) counts,
      inl (omega (arith, length-drop at bytes), counts, omega (arith, length-drop at bytes)),
    ))

pub faulty_few : (bytes : List ℕ) (at : ℕ) → at < length bytes → length bytes < at + 4 → FaultyAt bytes at at cut
faulty_few bytes at some few =
    faulty bytes at cut (inl (inl (omega (arith, length-drop at bytes), omega (arith, length-drop at bytes))))

-- a word that the plain reader finds is there
stands : (bytes : List ℕ) (at next : ℕ) (word : Word) → AreBytes bytes → at ≤ length bytes → next ≤ length bytes
    → word_at_front (drop at bytes) ≡ Some (word, drop next bytes) → StandsAt bytes at next word
stands bytes at next word small start within found =
    let read = word_at_front-found (drop at bytes) word (drop next bytes) (AreBytes-drop at bytes small) found in
    let len : length (drop at bytes) ≡ length (bytes_of_word word) + length (drop next bytes) =
    ap length read.0 ∙ length-append (bytes_of_word word) (drop next bytes) in
    let next_is : next ≡ at + length (bytes_of_word word) =
    omega (arith, length-drop at bytes, length-drop next bytes) in
    record {
      is_word = read.1;
      stands = read.0;
      found = found;
      next_is = next_is;
      behind = omega (arith, bytes_of_word_ge word);
      within = within;
    }

-- ---- each kind of word

behind_head : (bytes : List ℕ) (at : ℕ) → drop 4 (drop at bytes) ≡ drop (at + 4) bytes
behind_head bytes at = drop-drop 4 at bytes

behind_two : (bytes : List ℕ) (at : ℕ) → drop 4 (drop 4 (drop at bytes)) ≡ drop (at + 8) bytes
behind_two bytes at =
    ap (drop 4) (behind_head bytes at) ∙ drop-drop 4 (at + 4) bytes
    ∙ ap (λ (n : ℕ). drop n bytes) (let e : at + 4 + 4 ≡ at + 8 = omega arith in e)

drop_on : (bytes : List ℕ) (k start next : ℕ) → start + k ≡ next → drop k (drop start bytes) ≡ drop next bytes
drop_on bytes k start next is = drop-drop k start bytes ∙ ap (λ (n : ℕ). drop n bytes) is

-- a data word that the plain reader finds, whose payload is between these offsets
data_at : (bytes : List ℕ) (at delta start next : ℕ) (word : Word) → AreBytes bytes → at ≤ length bytes → start ≤ next
    → next ≤ length bytes
    → word_at_front (drop at bytes) ≡ Some (word, drop next bytes) → IsData word → delta_of word ≡ delta
    → payload_of word ≡ take (next - start) (drop start bytes)
    → DataAt bytes at delta (record { start = start; len = next - start }) next
data_at bytes at delta start next word small here order within found is_data delta_is payload_is =
    let len : length (take (next - start) (drop start bytes)) ≡ next - start =
    length-take-le (next - start) (drop start bytes) (omega (arith, length-drop start bytes)) in
    record {
      word = word;
      at_offset = stands bytes at next word small here within found;
      is_data = is_data;
      delta_is = delta_is;
      payload_is = payload_is;
      len_is = sym (ap length payload_is ∙ len);
      end_is = omega arith;
    }

pub long_read : (bytes : List ℕ) (at delta next : ℕ) → AreBytes bytes → type_at_front (drop at bytes) ≡ 0
    → delta ≡ delta_at_front (drop at bytes) → HasGoodLength (drop at bytes)
    → next ≡ at + 4 + number_behind (drop at bytes)
    → DataAt bytes at delta (record { start = at + 8; len = next - (at + 8) }) next
long_read bytes at delta next small is delta_is good next_is =
    let left = length-drop at bytes in
    let n : ℕ = number_behind (drop at bytes) in
    let len : n - 4 ≡ next - (at + 8) = (let least = good.least in omega arith) in
    let rest : drop (n - 4) (drop 4 (drop 4 (drop at bytes))) ≡ drop next bytes =
    ap (drop (n - 4)) (behind_two bytes at)
    ∙ drop_on bytes (n - 4) (at + 8) next (let least = good.least in omega arith) in
    let found =
    front-long (drop at bytes) is good
    ∙ (λ i. Some (long_data (sym delta_is i) (take (len i) (behind_two bytes at i)), rest i)) in
    data_at bytes at delta (at + 8) next (long_data delta (take (next - (at + 8)) (drop (at + 8) bytes))) small
    (let head = good.head in omega arith) (let least = good.least in omega arith)
    (let head = good.head in let fits = good.fits in omega arith) found tt refl refl

pub short_read : (bytes : List ℕ) (at words delta next : ℕ) → AreBytes bytes → at + 4 ≤ length bytes
    → CountsWords (drop at bytes) → words ≡ type_at_front (drop at bytes) → delta ≡ delta_at_front (drop at bytes)
    → next ≡ at + 4 + 4 * words → next ≤ length bytes
    → DataAt bytes at delta (record { start = at + 4; len = next - (at + 4) }) next
short_read bytes at words delta next small head counts words_is delta_is next_is within =
    let left = length-drop at bytes in
    let len : 4 * type_at_front (drop at bytes) ≡ next - (at + 4) = omega arith in
    let rest : drop (4 * type_at_front (drop at bytes)) (drop 4 (drop at bytes)) ≡ drop next bytes =
    ap (drop (4 * type_at_front (drop at bytes))) (behind_head bytes at)
    ∙ drop_on bytes (4 * type_at_front (drop at bytes)) (at + 4) next (omega arith) in
    let found =
    front-short (drop at bytes) (omega arith) counts (omega arith)
    ∙ (λ i. Some (short_data (sym delta_is i) (take (len i) (behind_head bytes at i)), rest i)) in
    data_at bytes at delta (at + 4) next (short_data delta (take (next - (at + 4)) (drop (at + 4) bytes))) small
    (omega arith) (omega arith) within found tt refl refl

pub padding_read : (bytes : List ℕ) (at next : ℕ) → AreBytes bytes → type_at_front (drop at bytes) ≡ 29
    → 1 ≤ delta_at_front (drop at bytes) → HasGoodLength (drop at bytes)
    → next ≡ at + 4 + number_behind (drop at bytes) → PaddingAt bytes at next
padding_read bytes at next small is some good next_is =
    let left = length-drop at bytes in
    let n : ℕ = number_behind (drop at bytes) in
    let skipped : List ℕ = take (n - 4) (drop 4 (drop 4 (drop at bytes))) in
    let rest : drop (n - 4) (drop 4 (drop 4 (drop at bytes))) ≡ drop next bytes =
    ap (drop (n - 4)) (behind_two bytes at)
    ∙ drop_on bytes (n - 4) (at + 8) next (let least = good.least in omega arith) in
    let found =
    front-padding (drop at bytes) is some good
    ∙ (λ i. Some (padding (delta_at_front (drop at bytes)) skipped, rest i)) in
    record {
      delta = delta_at_front (drop at bytes);
      skipped = skipped;
      at_offset =
          stands bytes at next (padding (delta_at_front (drop at bytes)) skipped) small
          (let head = good.head in omega arith) (let head = good.head in let fits = good.fits in omega arith) found;
    }

-- the time of an extend or a stamp
high_bits : (bytes : List ℕ)
    → from_le32 (take 4 (drop 4 bytes)) * 2 ^ 27 + delta_at_front bytes
    ≡ number_behind bytes * 2 ^ 27 + delta_at_front bytes
high_bits bytes = ap (λ (n : ℕ). n * 2 ^ 27 + delta_at_front bytes) (from_le32-take (drop 4 bytes))

pub extend_read : (bytes : List ℕ) (at time low : ℕ) → AreBytes bytes → type_at_front (drop at bytes) ≡ 30
    → low ≡ delta_at_front (drop at bytes) → at + 8 ≤ length bytes
    → time ≡ number_behind (drop at bytes) * 2 ^ 27 + low → StandsAt bytes at (at + 8) (time_extend time)
extend_read bytes at time low small is low_is head time_is =
    let left = length-drop at bytes in
    let time_too : from_le32 (take 4 (drop 4 (drop at bytes))) * 2 ^ 27 + delta_at_front (drop at bytes) ≡ time =
    high_bits (drop at bytes) ∙ ap (λ (d : ℕ). number_behind (drop at bytes) * 2 ^ 27 + d) (sym low_is)
    ∙ sym time_is in
    let found =
    front-extend (drop at bytes) is (omega arith) ∙ (λ i. Some (time_extend (time_too i), behind_two bytes at i)) in
    stands bytes at (at + 8) (time_extend time) small (omega arith) head found

pub stamp_read : (bytes : List ℕ) (at time low : ℕ) → AreBytes bytes → type_at_front (drop at bytes) ≡ 31
    → low ≡ delta_at_front (drop at bytes) → at + 8 ≤ length bytes
    → time ≡ number_behind (drop at bytes) * 2 ^ 27 + low → StandsAt bytes at (at + 8) (time_stamp time)
stamp_read bytes at time low small is low_is head time_is =
    let left = length-drop at bytes in
    let time_too : from_le32 (take 4 (drop 4 (drop at bytes))) * 2 ^ 27 + delta_at_front (drop at bytes) ≡ time =
    high_bits (drop at bytes) ∙ ap (λ (d : ℕ). number_behind (drop at bytes) * 2 ^ 27 + d) (sym low_is)
    ∙ sym time_is in
    let found =
    front-stamp (drop at bytes) (omega arith) (omega arith)
    ∙ (λ i. Some (time_stamp (time_too i), behind_two bytes at i)) in
    stands bytes at (at + 8) (time_stamp time) small (omega arith) head found

pub ending_read : (bytes : List ℕ) (at : ℕ) → at + 4 ≤ length bytes → type_at_front (drop at bytes) ≡ 29
    → delta_at_front (drop at bytes) ≡ 0 → EndingAt bytes at
ending_read bytes at head is none =
    let ends = HasEnding-from_head (drop at bytes) (omega (arith, length-drop at bytes)) is none in
    record { ends = ends; none_found = front-ending (drop at bytes) ends }

-- ---- an answer and what is there decide each other

front_of : (bytes : List ℕ) (at : ℕ) (reported : WordAnswer) → IsWordRead bytes at reported
    → HasWord (drop at bytes) ⊎ HasEnding (drop at bytes)
front_of bytes at (Data delta place next) read =
    inl (HasWord-some (drop at bytes) read.word (drop next bytes) read.at_offset.found)
front_of bytes at (Pad next) read =
    inl (HasWord-some (drop at bytes) (padding read.delta read.skipped) (drop next bytes) read.at_offset.found)
front_of bytes at End read = inr read.ends
front_of bytes at (Extend delta next) read =
    inl (HasWord-some (drop at bytes) (time_extend delta) (drop next bytes) read.found)
front_of bytes at (Stamp time next) read =
    inl (HasWord-some (drop at bytes) (time_stamp time) (drop next bytes) read.found)

no_front : (bytes : List ℕ) (cause : Cause) → IsWordFault bytes cause → HasWord bytes ⊎ HasEnding bytes → ⊥
no_front bytes cause fault =
    ⊎_elim (λ word. HasWord-HasFault bytes cause word fault) (λ ends. HasEnding-HasFault bytes cause ends fault)

pub IsOk-iff : (bytes : List ℕ) (at : ℕ) (r : Result WordAnswer WordFault)
    → IfOk r (λ reported. IsWordRead bytes at reported) → IfErr r (λ f. IsFaultAt bytes at f)
    → IsOk r ↔ (HasWord (drop at bytes) ⊎ HasEnding (drop at bytes))
IsOk-iff bytes at (Ok reported) read fault = (λ ok. front_of bytes at reported read, λ front. refl)
IsOk-iff bytes at (Err (Cut named)) read fault =
    (λ ok. absurd (false≢true ok), λ front. absurd (no_front (drop at bytes) cut fault.fault front))
IsOk-iff bytes at (Err (BadLength named)) read fault =
    (λ ok. absurd (false≢true ok), λ front. absurd (no_front (drop at bytes) bad_length fault.fault front))
IsOk-iff bytes at (Err (TimeOverflow named)) read fault = absurd fault

pub Cut-iff : (bytes : List ℕ) (at : ℕ) (r : Result WordAnswer WordFault)
    → IfOk r (λ reported. IsWordRead bytes at reported) → IfErr r (λ f. IsFaultAt bytes at f)
    → (r ≡ Err (Cut at)) ↔ IsWordFault (drop at bytes) cut
Cut-iff bytes at (Ok reported) read fault =
    (λ e. cc, λ is. absurd (no_front (drop at bytes) cut is (front_of bytes at reported read)))
Cut-iff bytes at (Err (Cut named)) read fault = (λ e. fault.fault, λ is. ap (λ (n : ℕ). Err (Cut n)) fault.offset)
Cut-iff bytes at (Err (BadLength named)) read fault =
    (λ e. cc, λ is. let same = IsWordFault-same (drop at bytes) bad_length cut fault.fault is in cc)
Cut-iff bytes at (Err (TimeOverflow named)) read fault = absurd fault

pub BadLength-iff : (bytes : List ℕ) (at : ℕ) (r : Result WordAnswer WordFault)
    → IfOk r (λ reported. IsWordRead bytes at reported) → IfErr r (λ f. IsFaultAt bytes at f)
    → (r ≡ Err (BadLength at)) ↔ IsWordFault (drop at bytes) bad_length
BadLength-iff bytes at (Ok reported) read fault =
    (λ e. cc, λ is. absurd (no_front (drop at bytes) bad_length is (front_of bytes at reported read)))
BadLength-iff bytes at (Err (Cut named)) read fault =
    (λ e. cc, λ is. let same = IsWordFault-same (drop at bytes) cut bad_length fault.fault is in cc)
BadLength-iff bytes at (Err (BadLength named)) read fault =
    (λ e. fault.fault, λ is. ap (λ (n : ℕ). Err (BadLength n)) fault.offset)
BadLength-iff bytes at (Err (TimeOverflow named)) read fault = absurd fault

-- if the number after the first four bytes can't be read
pub from_no_number : (bytes : List ℕ) (at : ℕ) (f : WordFault) → at + 4 ≤ length bytes
    → StatesLength (drop at bytes) ⊎ HasHighBits (drop at bytes) → f ≡ Cut at → (at + 8 ≤ length bytes → false ≡ true)
    → IsFaultAt bytes at f
from_no_number bytes at f head needs is never =
    let short : length bytes < at + 8 =
    ⊎_elim (λ less. less) (λ more. absurd (false≢true (never more))) (cases_lt (length bytes) (at + 8)) in
    subst (λ (g : WordFault). IsFaultAt bytes at g) (sym is) (faulty_no_number bytes at head short needs)
