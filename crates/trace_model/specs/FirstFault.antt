-- The first fault of the data of a page: what is before it, and what is wrong there. It is the counterpart
-- of Decodes in Words: data with a time has one reading or one first fault. The causes and their
-- order are stated in docs/formats/pages.md, "Record words".
use Rattle.std.specs.Prelude.{◌≡◌, ◌≢◌, ℕ, ◌^◌, ◌<◌, ◌≤◌, List, [], ◌∷◌, ◌++◌, length, slice_index}
use Rattle.std.specs.List.{AllByRecursion}
use Rattle.trace_model.specs.Words.{Word, bytes_of_word, IsWord, joined, moment_after, MovesTime, FitsTime}
use Rattle.trace_model.specs.Faults.{Cause, cut, bad_length, time_overflow, IsWordFault}

-- every number is a byte
abbrev pub AreBytes : List ℕ → Type 0
AreBytes bytes = (i : ℕ) → slice_index bytes i < 256

-- after these words a whole word that moves the time is at the front, and the moment there doesn't
-- fit 64 bits
pub record Overflows (time : ℕ) (words : List Word) (rest : List ℕ) : Type 0 where
  pub word : Word
  pub behind : List ℕ
  pub stands : rest ≡ bytes_of_word word ++ behind
  pub is_word : IsWord word
  pub moves : MovesTime word
  pub past : 2 ^ 64 ≤ moment_after time (words ++ word ∷ [])

-- what is wrong at the front of what is left after these words
abbrev pub IsFaultBehind : ℕ → List Word → List ℕ → Cause → Type 0
IsFaultBehind time words rest cut = IsWordFault rest cut
IsFaultBehind time words rest bad_length = IsWordFault rest bad_length
IsFaultBehind time words rest time_overflow = Overflows time words rest

-- The first fault of data with this time: the data is whole words, `at` bytes of them, none an ending padding
-- and no moment among them too large, and then a rest that isn't empty and has this fault at its front.
pub record FirstFault (bytes : List ℕ) (time : ℕ) (cause : Cause) (at : ℕ) : Type 0 where
  pub words : List Word
  pub rest : List ℕ
  pub whole : bytes ≡ joined words ++ rest
  pub each : AllByRecursion IsWord words
  pub in_time : FitsTime time words
  pub at_is : at ≡ length (joined words)
  pub some_left : rest ≢ []
  pub fault : IsFaultBehind time words rest cause
