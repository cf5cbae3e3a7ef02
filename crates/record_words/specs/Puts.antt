-- What is put at the front of a buffer.
use Rattle.std.specs.Prelude.{◌≡◌, ℕ, ◌+◌, ◌/◌, ◌≤◌, ◌<◌, ◌⊎◌, Bool, true, if◌then◌else◌, nat_le, List, ◌++◌, length}
use Rattle.std.specs.Prelude.{drop}
use Rattle.trace_model.specs.Words.{le32, first_word, encoded_len}
use Rattle.trace_model.specs.declared.limits.TheConstants.{MOMENT_LIMIT}
use Rattle.record_words.specs.declared.format.TheConstants.{SHORT_LIMIT, MAX_PAYLOAD}

-- new is old with these bytes at its front, and the same after them
abbrev pub Puts : List ℕ → List ℕ → List ℕ → Type 0
Puts old new bytes = new ≡ bytes ++ drop (length bytes) old

-- A record with a payload of len bytes fits in this many bytes. It is the first of its page, or comes `delta`
-- after the one before it.
pub record FitsIn (bytes delta : ℕ) (first : Bool) (len : ℕ) : Type 0 where
  pub short : len ≤ MAX_PAYLOAD
  pub in_time : (first ≡ true) ⊎ (delta < MOMENT_LIMIT)
  pub room : encoded_len len delta first ≤ bytes

-- what comes before a payload of slot bytes
abbrev pub data_header : ℕ → ℕ → List ℕ
data_header delta slot =
    if nat_le slot SHORT_LIMIT then first_word (slot / 4) delta else first_word 0 delta ++ le32 (slot + 4)

-- how many bytes that takes
abbrev pub header_len : ℕ → ℕ
header_len slot = if nat_le slot SHORT_LIMIT then 4 else 8
