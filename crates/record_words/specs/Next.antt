-- What a read of one word answers, and the word that it states.
use Rattle.std.specs.Prelude.{◌≡◌, ℕ, ◌+◌, ◌<◌, ◌≤◌, List, ◌++◌, length, take, drop, Some, None}
use Rattle.trace_model.specs.Words.{Word, padding, time_extend, time_stamp, bytes_of_word, IsWord, delta_of}
use Rattle.trace_model.specs.Reading.{word_at_front, IsData, payload_of}
use Rattle.trace_model.specs.Faults.{Cause, cut, bad_length, IsWordFault, HasEnding}
use Rattle.record_words.specs.declared.put.Place.{Place}
use Rattle.record_words.specs.declared.next.Word.{Word as WordAnswer}
use Rattle.record_words.specs.declared.next.Word.TheVariants.{Data, Pad, End, Extend, Stamp}
use Rattle.record_words.specs.declared.next.WordFault.{WordFault}
use Rattle.record_words.specs.declared.next.WordFault.TheVariants.{Cut, BadLength, TimeOverflow}

-- this word is at offset `at` of the bytes, and what follows it at offset `next`
pub record StandsAt (bytes : List ℕ) (at next : ℕ) (word : Word) : Type 0 where
  pub is_word : IsWord word
  pub stands : drop at bytes ≡ bytes_of_word word ++ drop next bytes
  pub found : word_at_front (drop at bytes) ≡ Some (word, drop next bytes)
  pub next_is : next ≡ at + length (bytes_of_word word)
  pub behind : at < next
  pub within : next ≤ length bytes

-- a record, whose payload is in this place and ends where the next word begins
pub record DataAt (bytes : List ℕ) (at delta : ℕ) (place : Place) (next : ℕ) : Type 0 where
  pub word : Word
  pub at_offset : StandsAt bytes at next word
  pub is_data : IsData word
  pub delta_is : delta_of word ≡ delta
  pub payload_is : payload_of word ≡ take place.len (drop place.start bytes)
  pub len_is : place.len ≡ length (payload_of word)
  pub end_is : place.start + place.len ≡ next

-- padding, of whatever delta and bytes
pub record PaddingAt (bytes : List ℕ) (at next : ℕ) : Type 0 where
  pub delta : ℕ
  pub skipped : List ℕ
  pub at_offset : StandsAt bytes at next (padding delta skipped)

-- an ending padding
pub record EndingAt (bytes : List ℕ) (at : ℕ) : Type 0 where
  pub ends : HasEnding (drop at bytes)
  pub none_found : word_at_front (drop at bytes) ≡ None

-- what is at this offset is what the answer states
abbrev pub IsWordRead : List ℕ → ℕ → WordAnswer → Type 0
IsWordRead bytes at (Data delta place next) = DataAt bytes at delta place next
IsWordRead bytes at (Pad next) = PaddingAt bytes at next
IsWordRead bytes at End = EndingAt bytes at
IsWordRead bytes at (Extend delta next) = StandsAt bytes at next (time_extend delta)
IsWordRead bytes at (Stamp time next) = StandsAt bytes at next (time_stamp time)

-- the word at this offset has this fault, and the fault names the offset
pub record FaultyAt (bytes : List ℕ) (at named : ℕ) (cause : Cause) : Type 0 where
  pub offset : named ≡ at
  pub fault : IsWordFault (drop at bytes) cause
  pub none_found : word_at_front (drop at bytes) ≡ None

-- a word alone never has a time that overflows
abbrev pub IsFaultAt : List ℕ → ℕ → WordFault → Type 0
IsFaultAt bytes at (Cut named) = FaultyAt bytes at named cut
IsFaultAt bytes at (BadLength named) = FaultyAt bytes at named bad_length
IsFaultAt bytes at (TimeOverflow named) = ⊥
