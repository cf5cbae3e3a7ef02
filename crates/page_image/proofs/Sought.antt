-- A place looked for in data, word by word from the front.
use Rattle.std.proofs.Common.{◌≡◌, ◌⊎◌, inl, inr, ℕ, ◌+◌, ◌≤◌, List, [], ◌∷◌, ◌++◌, length, drop, None, refl, sym, ap}
use Rattle.std.proofs.Common.{◌∙◌, ⊎_elim, arith, append_assoc, append-nil, length-append}
use Rattle.std.specs.List.{AllByRecursion}
use Rattle.std.proofs.lemmas.List.Concat.{flat_map-append}
use Rattle.trace_model.specs.Record.{Record}
use Rattle.trace_model.specs.Words.{Word, bytes_of_word, IsWord, joined, Decodes}
use Rattle.trace_model.specs.Reading.{IsData, payload_of, word_at_front, words_in, IsPlaceIn}
use Rattle.trace_model.proofs.words.Stepped.{words_in-none}
use Rattle.trace_model.proofs.words.Appended.{each-append}
use Rattle.trace_model.proofs.words.Overwritten.{head_of_ge}
use Rattle.trace_model.proofs.words.Places.{place-start, place-stop, length-joined_split, words_in-IsPlaceIn}
use Rattle.trace_model.proofs.words.Walked.{words_in-behind, place-beside, place-here, IsPlaceOf-read}
use Rattle.record_words.specs.declared.put.Place.{Place}
use Rattle.record_words.specs.declared.next.WordFault.{WordFault}
use Rattle.record_words.specs.declared.next.WordFault.TheVariants.{Cut, BadLength, TimeOverflow}
use Rattle.record_words.specs.Next.{StandsAt, DataAt, IsFaultAt}

-- at a fault there is no word
pub no_word_at_fault : (bytes : List ℕ) (at : ℕ) (fault : WordFault) → IsFaultAt bytes at fault
    → word_at_front (drop at bytes) ≡ None
no_word_at_fault bytes at (Cut named) h = h.none_found
no_word_at_fault bytes at (BadLength named) h = h.none_found
no_word_at_fault bytes at (TimeOverflow named) h = absurd h

-- the words that are before this offset
pub record ReadUpTo (bytes : List ℕ) (at : ℕ) : Type 0 where
  pub front : List Word
  pub whole : bytes ≡ joined front ++ drop at bytes
  pub each : AllByRecursion IsWord front
  pub at_is : at ≡ length (joined front)

pub ReadUpTo-start : (bytes : List ℕ) → ReadUpTo bytes 0
ReadUpTo-start bytes = record { front = []; whole = refl; each = tt; at_is = refl }

joined-push : (front : List Word) (w : Word) → joined (front ++ w ∷ []) ≡ joined front ++ bytes_of_word w
joined-push front w =
    flat_map-append bytes_of_word front (w ∷ []) ∙ ap (λ (b : List ℕ). joined front ++ b) (append-nil (bytes_of_word w))

pub ReadUpTo-step : (bytes : List ℕ) (at next : ℕ) (w : Word) → ReadUpTo bytes at → StandsAt bytes at next w
    → ReadUpTo bytes next
ReadUpTo-step bytes at next w read stands = record {
  front = read.front ++ w ∷ [];
  whole =
      read.whole ∙ ap (λ (b : List ℕ). joined read.front ++ b) stands.stands
      ∙ sym (append_assoc (joined read.front) (bytes_of_word w) (drop next bytes))
      ∙ ap (λ (b : List ℕ). b ++ drop next bytes) (sym (joined-push read.front w));
  each = each-append read.front (w ∷ []) read.each (stands.is_word, tt);
  at_is = let size = ap length (joined-push read.front w) ∙ length-append (joined read.front) (bytes_of_word w) in
      omega (arith, stands.next_is, read.at_is);
}

-- The words before this offset were read, and the place isn't there: it is of a word that is here or
-- later.
pub record IsAhead (bytes : List ℕ) (start len at : ℕ) : Type 0 where
  pub read : ReadUpTo bytes at
  pub ahead : IsPlaceIn bytes start len → at + 4 ≤ start

-- a payload has a word's head before it
place_ge_four : (bytes : List ℕ) (start len : ℕ) → IsPlaceIn bytes start len → 4 ≤ start
place_ge_four bytes start len p = let at = place-start bytes start len p in
    let head = head_of_ge p.word p.holds in
    omega arith

pub IsAhead-start : (bytes : List ℕ) (start len : ℕ) → IsAhead bytes start len 0
IsAhead-start bytes start len =
    record { read = ReadUpTo-start bytes; ahead = λ p. (let h = place_ge_four bytes start len p in omega arith) }

-- a place that is ahead is this word's payload, or after it
here_or_behind : (bytes : List ℕ) (start len at next : ℕ) (w : Word) → IsAhead bytes start len at
    → StandsAt bytes at next w → IsPlaceIn bytes start len
    → (next + 4 ≤ start) ⊎ (IsData w × (len ≡ length (payload_of w)) × (start + len ≡ next))
here_or_behind bytes start len at next w sought stands p =
    let read = sought.read in
    let more = ReadUpTo-step bytes at next w read stands in
    let after = sought.ahead p in
    let size = ap length (joined-push read.front w) ∙ length-append (joined read.front) (bytes_of_word w) in
    ⊎_elim
    (λ within.
    let here =
    place-here bytes start len read.front (drop at bytes) w (drop next bytes) p read.whole read.each stands.found
    (omega (arith, read.at_is)) (omega (arith, read.at_is, stands.next_is)) in
    inr (here.0, here.1, (let e = here.2 in omega (arith, read.at_is, stands.next_is))))
    (λ behind. inl (omega (arith, more.at_is)))
    (place-beside bytes start len more.front (drop next bytes) p more.whole more.each)

-- past a word that is no record's
pub IsAhead-other : (bytes : List ℕ) (start len at next : ℕ) (w : Word) → IsAhead bytes start len at
    → StandsAt bytes at next w → (IsData w → ⊥) → IsAhead bytes start len next
IsAhead-other bytes start len at next w sought stands other = record {
  read = ReadUpTo-step bytes at next w sought.read stands;
  ahead =
      λ p.
      ⊎_elim (λ behind. behind) (λ here. absurd (other here.0))
      (here_or_behind bytes start len at next w sought stands p);
}

-- past a record with another place
pub IsAhead-record : (bytes : List ℕ) (start len at delta : ℕ) (found : Place) (next : ℕ) → IsAhead bytes start len at
    → DataAt bytes at delta found next → ((found.start ≡ start) × (found.len ≡ len) → ⊥) → IsAhead bytes start len next
IsAhead-record bytes start len at delta found next sought stands other = record {
  read = ReadUpTo-step bytes at next stands.word sought.read stands.at_offset;
  ahead = λ p. ⊎_elim
      (λ behind. behind)
      (λ here.
      absurd (other (let e = here.1 in
      let f = here.2 in
      (omega (arith, stands.len_is, stands.end_is), omega (arith, stands.len_is)))))
      (here_or_behind bytes start len at next stands.word sought stands.at_offset p);
}

-- if there is no word, there is no such place
pub IsAhead-none : (bytes : List ℕ) (start len at : ℕ) → IsAhead bytes start len at
    → word_at_front (drop at bytes) ≡ None → IsPlaceIn bytes start len → ⊥
IsAhead-none bytes start len at sought none p =
    let read = sought.read in
    let after = sought.ahead p in
    let stop = place-stop bytes start len p in
    let words : p.front ++ p.word ∷ p.behind ≡ read.front =
    sym (words_in-IsPlaceIn bytes start len p) ∙ ap words_in read.whole
    ∙ words_in-behind read.front (drop at bytes) read.each
    ∙ ap (λ (ws : List Word). read.front ++ ws) (words_in-none (drop at bytes) none) ∙ append-nil read.front in
    let size = sym (length-joined_split p.front p.word p.behind) ∙ ap (λ (ws : List Word). length (joined ws)) words in
    omega (arith, read.at_is)

-- in data that reads, the place of a record's word is one
pub IsAhead-found : (bytes : List ℕ) (start len at delta : ℕ) (found : Place) (next time : ℕ) (records : List Record)
    → IsAhead bytes start len at → DataAt bytes at delta found next → Decodes bytes time records
    → IsPlaceIn bytes found.start found.len
IsAhead-found bytes start len at delta found next time records sought stands reads =
    let read = sought.read in
    (IsPlaceOf-read bytes time records read.front (drop at bytes) stands.word (drop next bytes) found.start found.len
    reads read.whole read.each stands.at_offset.found stands.is_data
    (stands.end_is ∙ stands.at_offset.next_is ∙ ap (λ (n : ℕ). n + length (bytes_of_word stands.word)) read.at_is)
    stands.len_is).place
