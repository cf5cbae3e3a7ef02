-- A list of records cut into what was taken and what was lost between.
use Rattle.std.specs.Prelude.{◌≡◌, ℕ, zero, suc, ◌+◌, List, [], ◌∷◌, ◌++◌, length, take, drop, Option, Some, None}
use Rattle.trace_model.specs.Record.{Record}

-- skipped: the number of records that are skipped. records: those that follow them.
pub record Piece : Type 0 where
  pub skipped : ℕ
  pub records : List Record

-- The records are, in order, as many as the first piece skips, its own, as many as the second skips, its own, and
-- so on, and then the rest.
abbrev pub IsPartition : List Record → List Piece → List Record → Type 0
IsPartition records [] rest = records ≡ rest
IsPartition records (p ∷ pieces) rest =
    (lost behind : List Record)
    × (length lost ≡ p.skipped)
    × (records ≡ lost ++ (p.records ++ behind))
    × IsPartition behind pieces rest

-- how many records a piece covers, with those that it skips
abbrev pub covered_count : Piece → ℕ
covered_count p = p.skipped + length p.records

-- how many records are before the list of a piece: all that the pieces before it cover, and
-- those that it skips; counted from a number on
abbrev pub first_from : ℕ → List Piece → ℕ → Option ℕ
first_from number [] k = None
first_from number (p ∷ pieces) zero = Some (number + p.skipped)
first_from number (p ∷ pieces) (suc k) = first_from (number + covered_count p) pieces k

abbrev pub first_of : List Piece → ℕ → Option ℕ
first_of pieces k = first_from 0 pieces k

-- The piece at an index has its records from this number on: it is the number of records of the whole list
-- before them, those of the pieces before it with what these skip, and those that it skips itself.
pub record IsNumberedFrom (records : List Record) (pieces : List Piece) (rest : List Record)
    (index : ℕ) (p : Piece) (first : ℕ)
    : Type 0 where
  pub before : List Record
  pub lost : List Record
  pub behind : List Record
  pub whole : records ≡ before ++ (lost ++ (p.records ++ behind))
  pub partition : IsPartition before (take index pieces) []
  pub skips : length lost ≡ p.skipped
  pub others : IsPartition behind (drop (suc index) pieces) rest
  pub number : first ≡ length before + length lost
