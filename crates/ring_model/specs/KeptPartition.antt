-- What each step of a ring keeps of the fills that the reader took.
use Rattle.std.specs.Prelude.{◌≡◌, ℕ, ◌+◌, ◌<◌, ◌≤◌, List, [], ◌∷◌, map, take, Some}
use Rattle.std.specs.List.{slice_get}
use Rattle.trace_model.specs.History.{HistoryEvent, reserved_records, as_record}
use Rattle.trace_model.specs.Partition.{Piece, IsPartition, covered_count, first_of}
use Rattle.trace_model.specs.Packing.{first_of_fill}
use Rattle.trace_model.specs.Ring.{TakenFill, Core, AreFillsOf}

-- a taken fill as a piece: what was lost before it, and its records
abbrev pub piece_of : TakenFill → Piece
piece_of t = record { skipped = t.skipped; records = map as_record t.held.records }

abbrev pub pieces_of : List TakenFill → List Piece
pieces_of taken = map piece_of taken

-- how many records the pieces cover
abbrev pub covered_total : List Piece → ℕ
covered_total [] = 0
covered_total (p ∷ pieces) = covered_count p + covered_total pieces

-- each taken fill has as its first number the count of all records before it
abbrev pub HaveFirsts : List TakenFill → Type 0
HaveFirsts taken = (k : ℕ) (t : TakenFill)
    → slice_get taken k ≡ Some t
    → first_of (pieces_of taken) k ≡ Some t.held.first

-- The number that the reader expects is at most the head's first one; and the records below the expected number are,
-- in order, those that it took and those that were lost between. What it took are fills of the history, from
-- below the head.
pub record PartitionAt (start : ℕ) (history : List HistoryEvent) (head expected : ℕ) (taken : List TakenFill)
    : Type 0 where
  pub expected_le : expected ≤ first_of_fill history start head
  pub partition : IsPartition (take expected (map as_record (reserved_records history))) (pieces_of taken) []
  pub total : covered_total (pieces_of taken) ≡ expected
  pub firsts : HaveFirsts taken
  pub fills : AreFillsOf start history taken
  pub below : (k : ℕ) (t : TakenFill) → slice_get taken k ≡ Some t → t.fill < head

abbrev pub PartitionKept : ℕ → Core → Type 0
PartitionKept start c = PartitionAt start c.history c.head c.reader.expected c.reader.taken
