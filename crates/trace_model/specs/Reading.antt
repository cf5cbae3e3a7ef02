-- The plain, slow reader of a page's data, word by word from the front: what it gives is tied to the
-- whole-data definition of Words by the laws. And the places of payloads in data.
use Rattle.std.specs.Prelude.{◌≡◌, ℕ, zero, suc, ◌+◌, ◌-◌, ◌*◌, ◌/◌, ◌%◌, ◌^◌, ◌⊎◌, ⊤, if◌then◌else◌, ◌==◌, nat_lt}
use Rattle.std.specs.Prelude.{nat_le, List, [], ◌∷◌, ◌++◌, length, take, drop, Option, Some, None}
use Rattle.std.specs.Option.{option_map_or}
use Rattle.std.specs.Int.{from_le_bytes, w32}
use Rattle.std.specs.List.{AllByRecursion}
use Rattle.trace_model.specs.Record.{Record}
use Rattle.trace_model.specs.Words.{Word, short_data, long_data, padding, time_extend, time_stamp, bytes_of_word}
use Rattle.trace_model.specs.Words.{joined, IsWord, IsJoined, records_of}

-- the number in the first four bytes, the lowest first
unfoldable pub from_le32 : List ℕ → ℕ
from_le32 bytes = from_le_bytes w32 bytes

-- what is made of the first n of these bytes, and the bytes after them, if there are n
abbrev pub part_of : {X : Type 0} → ℕ → List ℕ → (List ℕ → X) → Option (X × List ℕ)
part_of n bytes make = if nat_lt (length bytes) n then None else Some (make (take n bytes), drop n bytes)

-- what is made of the bytes after a length of four bytes, which counts itself, up to that length, and the bytes after
-- them
abbrev pub part_with_length : {X : Type 0} → List ℕ → (List ℕ → X) → Option (X × List ℕ)
part_with_length bytes make =
    if nat_lt (length bytes) 4 then None
    else (if nat_lt (from_le32 bytes) 4 then None
    else (if from_le32 bytes % 4 == 0 then part_of (from_le32 bytes - 4) (drop 4 bytes) make else None))

-- the word whose first four bytes have this type and delta, made of the bytes after them
abbrev pub word_behind : ℕ → ℕ → List ℕ → Option (Word × List ℕ)
word_behind type_len delta bytes =
    if type_len == 0 then part_with_length bytes (long_data delta)
    else (if nat_le type_len 28 then part_of (4 * type_len) bytes (short_data delta)
    else (if type_len == 29 then (if delta == 0 then None else part_with_length bytes (padding delta))
    else (if type_len == 30 then part_of 4 bytes (λ high. time_extend (from_le32 high * 2 ^ 27 + delta))
    else part_of 4 bytes (λ high. time_stamp (from_le32 high * 2 ^ 27 + delta)))))

-- the word at the front and what is after it, if a whole one is there; an ending padding is none
unfoldable pub word_at_front : List ℕ → Option (Word × List ℕ)
word_at_front bytes =
    if nat_lt (length bytes) 4 then None else word_behind (from_le32 bytes % 32) (from_le32 bytes / 32) (drop 4 bytes)

-- at most n words from the front
abbrev pub words_within : ℕ → List ℕ → List Word
words_within zero bytes = []
words_within (suc n) bytes = option_map_or (λ found. found.0 ∷ words_within n found.1) (word_at_front bytes) []

-- the words at the front of the bytes
unfoldable pub words_in : List ℕ → List Word
words_in bytes = words_within (length bytes) bytes

-- the records that data with this time holds
abbrev pub records_in : ℕ → List ℕ → List Record
records_in time bytes = records_of time (words_in bytes)

-- the word holds a record
abbrev pub IsData : Word → Type 0
IsData (short_data delta payload) = ⊤
IsData (long_data delta payload) = ⊤
IsData (padding delta skipped) = ⊥
IsData (time_extend delta) = ⊥
IsData (time_stamp time) = ⊥

-- a data word's payload
abbrev pub payload_of : Word → List ℕ
payload_of (short_data delta payload) = payload
payload_of (long_data delta payload) = payload
payload_of (padding delta skipped) = []
payload_of (time_extend delta) = []
payload_of (time_stamp time) = []

-- the bytes are whole words, the last of them a record's, or there are none: a record may follow
pub record EndsInRecord (bytes : List ℕ) : Type 0 where
  pub words : List Word
  pub whole : bytes ≡ joined words
  pub each : AllByRecursion IsWord words
  pub last : (words ≡ []) ⊎ ((front : List Word) × (w : Word) × (words ≡ front ++ w ∷ []) × IsData w)

-- the payload of a record of this data starts there and has this length, in bytes
pub record IsPlaceIn (bytes : List ℕ) (start len : ℕ) : Type 0 where
  pub front : List Word
  pub word : Word
  pub behind : List Word
  pub rest : List ℕ
  pub cut : IsJoined bytes (front ++ word ∷ behind) rest
  pub holds : IsData word
  pub start_is : start + length (payload_of word) ≡ length (joined front) + length (bytes_of_word word)
  pub len_is : len ≡ length (payload_of word)
