-- A payload of a page's data, overwritten in place, and the number of its record.
use Rattle.std.specs.Prelude.{◌≡◌, ℕ, ◌+◌, List, ◌∷◌, ◌++◌, length, take, drop}
use Rattle.trace_model.specs.Record.{Record}
use Rattle.trace_model.specs.Words.{records_of}
use Rattle.trace_model.specs.Reading.{IsPlaceIn}

-- the bytes of this length from a start on
abbrev pub bytes_at : ℕ → ℕ → List ℕ → List ℕ
bytes_at start len bytes = take len (drop start bytes)

-- the bytes with new ones from there on, in place of as many
abbrev pub overwritten : List ℕ → ℕ → List ℕ → List ℕ
overwritten bytes start new = take start bytes ++ (new ++ drop (start + length new) bytes)

-- Both lists have the same records but for the bytes of one: the one of this index.
pub record IsReplacedAt (number : ℕ) (records others : List Record) (old new : List ℕ) : Type 0 where
  pub front : List Record
  pub moment : ℕ
  pub behind : List Record
  pub at : length front ≡ number
  pub was : records ≡ front ++ record { moment = moment; bytes = old } ∷ behind
  pub is : others ≡ front ++ record { moment = moment; bytes = new } ∷ behind

-- The payload of the record of this index in the data (`number`, from 0: not its number on its CPU) starts there and
-- has this length. How many records are before it depends on the words alone, so any time serves.
pub record IsPlaceOf (bytes : List ℕ) (number start len : ℕ) : Type 0 where
  pub place : IsPlaceIn bytes start len
  pub number_is : number ≡ length (records_of 0 place.front)
