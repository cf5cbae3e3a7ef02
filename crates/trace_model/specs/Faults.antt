-- What is wrong at the front of a page's data if neither a whole word nor an ending padding is there.
-- kernel/trace/ring_buffer.c (rb_event_data_length, rb_event_length) trusts its own pages. The search for
-- what is wrong, in the order of IsWordFault, is this project's own; what is right is stated in
-- docs/formats/pages.md, "How data is read".
use Rattle.std.specs.Prelude.{◌≡◌, ◌≢◌, ℕ, ◌+◌, ◌*◌, ◌/◌, ◌%◌, ◌<◌, ◌≤◌, ◌⊎◌, IsSome, List, ◌++◌, length, drop}
use Rattle.trace_model.specs.Words.{ending_padding}
use Rattle.trace_model.specs.Reading.{from_le32, word_at_front}

-- cut: the data ends within the word. bad_length: no word has the length that it states.
-- time_overflow: a time doesn't fit 64 bits, which no word shows alone.
pub data Cause : Type 0 where
  cut : Cause
  bad_length : Cause
  time_overflow : Cause

-- the type that the first four bytes state
abbrev pub type_at_front : List ℕ → ℕ
type_at_front bytes = from_le32 bytes % 32

-- the delta that they state
abbrev pub delta_at_front : List ℕ → ℕ
delta_at_front bytes = from_le32 bytes / 32

-- the number in the four bytes after the first four: a length, or the high bits of a time
abbrev pub number_behind : List ℕ → ℕ
number_behind bytes = from_le32 (drop 4 bytes)

-- types 1 to 28 are data, and count the payload's bytes in fours
abbrev pub CountsWords : List ℕ → Type 0
CountsWords bytes = (1 ≤ type_at_front bytes) × (type_at_front bytes ≤ 28)

-- data of type 0, and padding that doesn't end the data, state a length, which counts its own four bytes
abbrev pub StatesLength : List ℕ → Type 0
StatesLength bytes = (type_at_front bytes ≡ 0) ⊎ ((type_at_front bytes ≡ 29) × (1 ≤ delta_at_front bytes))

-- types 30 and 31, an extend and a stamp, have the high bits of a time after them
abbrev pub HasHighBits : List ℕ → Type 0
HasHighBits bytes = 30 ≤ type_at_front bytes

-- the stated length counts itself, is a multiple of 4, and ends within the bytes
pub record HasGoodLength (bytes : List ℕ) : Type 0 where
  pub head : 8 ≤ length bytes
  pub least : 4 ≤ number_behind bytes
  pub whole : number_behind bytes % 4 ≡ 0
  pub fits : 4 + number_behind bytes ≤ length bytes

-- one to three bytes are left; or four to seven, and a number belongs after the first four
abbrev pub IsCutInHead : List ℕ → Type 0
IsCutInHead bytes =
    ((1 ≤ length bytes) × (length bytes < 4))
    ⊎ ((4 ≤ length bytes) × (length bytes < 8) × (StatesLength bytes ⊎ HasHighBits bytes))

-- the stated length doesn't count itself, or isn't a multiple of 4
abbrev pub HasBadLength : List ℕ → Type 0
HasBadLength bytes =
    (8 ≤ length bytes) × StatesLength bytes × ((number_behind bytes < 4) ⊎ (number_behind bytes % 4 ≢ 0))

-- the payload or the padding reaches past the end of the data
abbrev pub IsCutInBody : List ℕ → Type 0
IsCutInBody bytes =
    ((4 ≤ length bytes) × CountsWords bytes × (length bytes < 4 + 4 * type_at_front bytes))
    ⊎ ((8 ≤ length bytes) × StatesLength bytes × (length bytes < 4 + number_behind bytes))

-- The cause of the word's fault: of the three above, in their order, the first that holds.
abbrev pub IsWordFault : List ℕ → Cause → Type 0
IsWordFault bytes cut = IsCutInHead bytes ⊎ ((HasBadLength bytes → ⊥) × IsCutInBody bytes)
IsWordFault bytes bad_length = (IsCutInHead bytes → ⊥) × HasBadLength bytes
IsWordFault bytes time_overflow = ⊥

-- a whole word is at the front
abbrev pub HasWord : List ℕ → Type 0
HasWord bytes = IsSome (word_at_front bytes)

-- an ending padding is at the front
abbrev pub HasEnding : List ℕ → Type 0
HasEnding bytes = (ignored : List ℕ) × (bytes ≡ ending_padding ++ ignored)

-- the front is at fault
abbrev pub HasFault : List ℕ → Type 0
HasFault bytes = (cause : Cause) × IsWordFault bytes cause
