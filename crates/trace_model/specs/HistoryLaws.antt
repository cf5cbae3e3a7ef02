-- The laws over histories of frames and their fills, as statements. The functions of src/laws/histories.rt and
-- src/laws/packings.rt have them as their contracts.
use Rattle.std.specs.Prelude.{◌≡◌, ◌≢◌, ℕ, ◌+◌, ◌<◌, List, [], length, map, take, slice_index_or}
use Rattle.trace_model.specs.History.{HistoryEvent, reserved_records, settled_prefix, as_record, committed_records}
use Rattle.trace_model.specs.Packing.{fills_of, IsPacked}

-- how many records of a history are committed
abbrev pub committed_count : List HistoryEvent → ℕ
committed_count history = length (reserved_records (settled_prefix history))

-- whatever the frames did, the committed records are the first ones that were reserved, as they are by now
abbrev pub CommittedIsPrefix : Type 0
CommittedIsPrefix = (history : List HistoryEvent)
    → map as_record (take (committed_count history) (reserved_records history)) ≡ committed_records history

-- in a packed history every fill but the last holds a record
abbrev pub PackedFillsAreFull : Type 0
PackedFillsAreFull = (history : List HistoryEvent) (size k : ℕ)
    → IsPacked history size
    → k + 1 < length (fills_of history)
    → slice_index_or (fills_of history) k [] ≢ []
