-- Record words: how a record is written, and what the data of a page reads as.
-- After include/linux/ring_buffer.h (enum ring_buffer_type, struct ring_buffer_event) and
-- kernel/trace/ring_buffer.c (rb_update_event, rb_add_timestamp, rb_update_read_stamp); what is
-- this project's own is stated in docs/formats/pages.md, "Record words".
use Rattle.std.specs.Prelude.{◌≡◌, ℕ, ◌+◌, ◌-◌, ◌*◌, ◌/◌, ◌%◌, ◌^◌, ◌<◌, ◌≤◌, max, ◌⊎◌, ⊤, Bool, true, false}
use Rattle.std.specs.Prelude.{if◌then◌else◌, nat_lt, nat_le, List, [], ◌∷◌, ◌++◌, length, replicate, flat_map, sum_by}
use Rattle.std.specs.Prelude.{Option, Some, None, unwrap_or}
use Rattle.std.specs.Int.{to_le_bytes, w32}
use Rattle.std.specs.List.{AllByRecursion, list_any}
use Rattle.trace_model.specs.Record.{Record}

-- a number below 2^32 as four bytes, the lowest first
unfoldable pub le32 : ℕ → List ℕ
le32 n = to_le_bytes w32 n

-- a type in the low five bits of a word, and 27 bits of time above it
abbrev pub first_word : ℕ → ℕ → List ℕ
first_word type_len delta = le32 (type_len + 32 * delta)

-- One word of the data of a page, with all that belongs to it. Data has its payload after the
-- word (short form) or after the word and a length (long form); padding is skipped; an extend adds
-- to the time and a stamp sets it.
pub data Word : Type 0 where
  short_data : (delta : ℕ) (payload : List ℕ) → Word
  long_data : (delta : ℕ) (payload : List ℕ) → Word
  padding : (delta : ℕ) (skipped : List ℕ) → Word
  time_extend : (delta : ℕ) → Word
  time_stamp : (time : ℕ) → Word

-- the bytes of a word: types 1 to 28 count the payload's bytes in fours, 0 has a length that counts itself
abbrev pub bytes_of_word : Word → List ℕ
bytes_of_word (short_data delta payload) = first_word (length payload / 4) delta ++ payload
bytes_of_word (long_data delta payload) = first_word 0 delta ++ le32 (length payload + 4) ++ payload
bytes_of_word (padding delta skipped) = first_word 29 delta ++ le32 (length skipped + 4) ++ skipped
bytes_of_word (time_extend delta) = first_word 30 (delta % 2 ^ 27) ++ le32 (delta / 2 ^ 27)
bytes_of_word (time_stamp time) = first_word 31 (time % 2 ^ 27) ++ le32 (time / 2 ^ 27)

-- the times of extends and stamps have 27 low and 32 high bits: a bound of the format, not of what is written
abbrev pub word_time_limit : ℕ
word_time_limit = 2 ^ (27 + 32)

-- payloads and padding are multiples of 4 bytes long, lengths fit 32 bits, and times fit what the word holds
abbrev pub IsWord : Word → Type 0
IsWord (short_data delta payload) =
    (delta < 2 ^ 27) × (length payload % 4 ≡ 0) × (4 ≤ length payload) × (length payload ≤ 112)
IsWord (long_data delta payload) = (delta < 2 ^ 27) × (length payload % 4 ≡ 0) × (length payload + 4 < 2 ^ 32)
IsWord (padding delta skipped) =
    (1 ≤ delta) × (delta < 2 ^ 27) × (length skipped % 4 ≡ 0) × (length skipped + 4 < 2 ^ 32)
IsWord (time_extend delta) = delta < word_time_limit
IsWord (time_stamp time) = time < word_time_limit

-- the padding of delta 0: the data ends there, whatever follows
abbrev pub ending_padding : List ℕ
ending_padding = first_word 29 0

-- what the words of a page may be followed by: nothing, or an ending padding and anything
abbrev pub IsEnding : List ℕ → Type 0
IsEnding rest = (rest ≡ []) ⊎ ((ignored : List ℕ) × (rest ≡ ending_padding ++ ignored))

-- the joined bytes of words
abbrev pub joined : List Word → List ℕ
joined words = flat_map bytes_of_word words

-- by how much a word moves the time: padding doesn't
abbrev pub delta_of : Word → ℕ
delta_of (short_data delta payload) = delta
delta_of (long_data delta payload) = delta
delta_of (padding delta skipped) = 0
delta_of (time_extend delta) = delta
delta_of (time_stamp time) = 0

-- the time that a stamp sets; no other word sets one
abbrev pub stamp_of : Word → Option ℕ
stamp_of (time_stamp time) = Some time
stamp_of (short_data delta payload) = None
stamp_of (long_data delta payload) = None
stamp_of (padding delta skipped) = None
stamp_of (time_extend delta) = None

-- whether the word is a stamp
abbrev pub is_stamp : Word → Bool
is_stamp (time_stamp time) = true
is_stamp (short_data delta payload) = false
is_stamp (long_data delta payload) = false
is_stamp (padding delta skipped) = false
is_stamp (time_extend delta) = false

-- the last stamp among the words, or the page's time where there is none
abbrev pub last_stamp : ℕ → List Word → ℕ
last_stamp time [] = time
last_stamp time (w ∷ words) = last_stamp (unwrap_or (stamp_of w) time) words

-- the words after the last stamp
abbrev pub since_stamp : List Word → List Word
since_stamp [] = []
since_stamp (w ∷ words) =
    if list_any is_stamp words then since_stamp words else (if is_stamp w then words else w ∷ words)

-- the moment of a record whose word is the last of these: the last stamp, and all deltas after it
abbrev pub moment_after : ℕ → List Word → ℕ
moment_after time words = last_stamp time words + sum_by delta_of (since_stamp words)

-- the record that a word holds, if it is data; these words are before it
abbrev pub records_at : ℕ → List Word → Word → List Record
records_at time front (short_data delta payload) =
    record { moment = moment_after time (front ++ short_data delta payload ∷ []); bytes = payload } ∷ []
records_at time front (long_data delta payload) =
    record { moment = moment_after time (front ++ long_data delta payload ∷ []); bytes = payload } ∷ []
records_at time front (padding delta skipped) = []
records_at time front (time_extend delta) = []
records_at time front (time_stamp stamp) = []

-- the records of the second words, which follow the first
abbrev pub records_behind : ℕ → List Word → List Word → List Record
records_behind time front [] = []
records_behind time front (w ∷ words) = records_at time front w ++ records_behind time (front ++ w ∷ []) words

-- the records of a page's words, in order
abbrev pub records_of : ℕ → List Word → List Record
records_of time words = records_behind time [] words

-- data and extends move the time, by a delta that may be 0
abbrev pub MovesTime : Word → Type 0
MovesTime (short_data delta payload) = ⊤
MovesTime (long_data delta payload) = ⊤
MovesTime (time_extend delta) = ⊤
MovesTime (padding delta skipped) = ⊥
MovesTime (time_stamp time) = ⊥

-- wherever a word moves the time, the moment there fits 64 bits
abbrev pub FitsTime : ℕ → List Word → Type 0
FitsTime time words = (front : List Word) (w : Word) (rest : List Word) → words ≡ front ++ w ∷ rest
    → MovesTime w → moment_after time (front ++ w ∷ []) < 2 ^ 64

-- the bytes are these words, and then an ending
pub record IsJoined (bytes : List ℕ) (words : List Word) (rest : List ℕ) : Type 0 where
  pub whole : bytes ≡ joined words ++ rest
  pub each : AllByRecursion IsWord words
  pub ending : IsEnding rest

-- The data of a page with this time reads as these records. What decides is the data as a whole:
-- some way to cut it into words.
pub record Decodes (bytes : List ℕ) (time : ℕ) (records : List Record) : Type 0 where
  pub words : List Word
  pub rest : List ℕ
  pub cut : IsJoined bytes words rest
  pub in_time : FitsTime time words
  pub read : records ≡ records_of time words

-- how many bytes a payload of len bytes takes in a page: a length of 0 counts as 1, rounded up to a multiple of 4
abbrev pub slot_len : ℕ → ℕ
slot_len len = 4 * ((max len 1 + 3) / 4)

-- a payload as it is in a page: with zeros after it
abbrev pub padded : List ℕ → List ℕ
padded bytes = bytes ++ replicate (slot_len (length bytes) - length bytes) 0

-- the one word that the writer puts for data: the short form up to 112 bytes
abbrev pub data_word : ℕ → List ℕ → Word
data_word delta payload = if nat_le (length payload) 112 then short_data delta payload else long_data delta payload

-- a delta that doesn't fit its 27 bits is put into an extend before the word; if a record begins its page,
-- none is written, as the page's time is its moment
abbrev pub written_words : ℕ → Bool → List ℕ → List Word
written_words delta true payload = data_word 0 payload ∷ []
written_words delta false payload =
    if nat_lt delta (2 ^ 27) then data_word delta payload ∷ [] else time_extend delta ∷ data_word 0 payload ∷ []

-- how a payload that fills its slot is written
abbrev pub encoding : ℕ → Bool → List ℕ → List ℕ
encoding delta first payload = joined (written_words delta first payload)

-- how a record is written after one of moment prev, or as the first of its page
abbrev pub encoding_of : ℕ → Record → Bool → List ℕ
encoding_of prev r first = encoding (r.moment - prev) first (padded r.bytes)

-- how many bytes that takes, for a payload of len bytes
abbrev pub encoded_len : ℕ → ℕ → Bool → ℕ
encoded_len len delta first =
    (if first then 0 else (if nat_lt delta (2 ^ 27) then 0 else 8))
    + (if nat_le (slot_len len) 112 then 4 else 8)
    + slot_len len

-- records one after the other, the first of them after a record of moment prev
abbrev pub encodings_behind : ℕ → List Record → List ℕ
encodings_behind prev [] = []
encodings_behind prev (r ∷ records) = encoding_of prev r false ++ encodings_behind r.moment records

-- the data of a page that holds these records
abbrev pub page_encoding : List Record → List ℕ
page_encoding [] = []
page_encoding (r ∷ records) = encoding_of 0 r true ++ encodings_behind r.moment records
