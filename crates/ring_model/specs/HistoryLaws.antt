-- The laws of what a ring's frames did, and of the partition of its records, as statements: each is a clause
-- of a function of src/laws/histories.rt.
use Rattle.std.specs.Prelude.{◌≡◌, ◌≢◌, ℕ, ◌+◌, ◌-◌, ◌*◌, ◌^◌, ◌<◌, ◌≤◌, List, [], ◌++◌, length, map, drop, flat_map}
use Rattle.std.specs.Prelude.{Some, slice_get}
use Rattle.trace_model.specs.declared.limits.TheConstants.{MAX_SIZE}
use Rattle.trace_model.specs.Record.{Record}
use Rattle.trace_model.specs.History.{HistoryEvent, IsHistory, Reservation, reserved_records, as_record}
use Rattle.trace_model.specs.History.{committed_records}
use Rattle.trace_model.specs.Packing.{fills_of, tail_of, IsPacked, first_of_fill}
use Rattle.trace_model.specs.Partition.{IsPartition}
use Rattle.trace_model.specs.Ring.{TakenFill, Core, AreFillsOf}
use Rattle.trace_model.specs.Steps.{Event, Answer, Step}
use Rattle.ring_model.specs.KeptPartition.{pieces_of, HaveFirsts}
use Rattle.ring_model.specs.RingKept.{IsRingKept}
use Rattle.ring_model.specs.Appended.{Appends}

-- ---- histories

-- An event appends to what the frames did the history events that its answer, in the state before it, stands for, and
-- nothing else.
abbrev pub StepsAppend : Type 0
StepsAppend = (n size start : ℕ) (c : Core) (event : Event) (answer : Answer) (after : Core)
    → IsRingKept n size start c
    → Step n size c event answer after
    → (appended : List HistoryEvent) × (after.history ≡ c.history ++ appended) × Appends n c event answer appended

-- By the state before the event, and its answer, these are one list only.
abbrev pub AppendedIsOne : Type 0
AppendedIsOne = (n : ℕ) (c : Core) (event : Event) (answer : Answer) (some others : List HistoryEvent)
    → Appends n c event answer some
    → Appends n c event answer others
    → some ≡ others

-- What the frames did keeps the discipline of the stack: each history event is one that the frames that stood allowed
abbrev pub RunsAreHistories : Type 0
RunsAreHistories = (n size start : ℕ) (c : Core) → IsRingKept n size start c → IsHistory c.history

-- and it is packed in its pages: each fill has room in one, and a fill is begun only after one that isn't
-- empty, for a record that doesn't fit, by a close frame, or for the reader's wish
abbrev pub RunsArePacked : Type 0
RunsArePacked = (n size start : ℕ) (c : Core) → IsRingKept n size start c → IsPacked c.history size

-- each record takes 8 bytes at least, so the begun fills bound the number of reserved records
abbrev pub RecordsAreFew : Type 0
RecordsAreFew = (n size start : ℕ) (c : Core)
    → IsRingKept n size start c
    → 8 * length (reserved_records c.history) ≤ size * (c.opened - start)

-- so the records of a ring have numbers below 2 ^ 61, whatever its run
abbrev pub RecordNumbersFit : Type 0
RecordNumbersFit = (n size start : ℕ) (c : Core)
    → IsRingKept n size start c
    → size ≤ MAX_SIZE
    → length (reserved_records c.history) < 2 ^ 61

-- each of these fills holds a record
abbrev pub HoldRecords : List TakenFill → Type 0
HoldRecords taken = (k : ℕ) (t : TakenFill) → slice_get taken k ≡ Some t → t.held.records ≢ []

-- so no page that the reader takes is empty
abbrev pub TakenHoldRecords : Type 0
TakenHoldRecords = (n size start : ℕ) (c : Core) → IsRingKept n size start c → HoldRecords c.reader.taken

-- ---- the partition

-- the fills that the reader took are, with the records that were lost between, the committed records up to a
-- rest; and each has as its first number the count of all records before it
abbrev pub TakenPartitionCommitted : Type 0
TakenPartitionCommitted = (n size start : ℕ) (c : Core)
    → IsRingKept n size start c
    → ((rest : List Record) × IsPartition (committed_records c.history) (pieces_of c.reader.taken) rest)
    × HaveFirsts c.reader.taken

-- and each of these is a fill of what the frames did, whole and under that fill's number, which rise
abbrev pub TakenAreFills : Type 0
TakenAreFills = (n size start : ℕ) (c : Core)
    → IsRingKept n size start c
    → AreFillsOf start c.history c.reader.taken

-- ---- the rest

-- the records of the fills of a history, joined, but for those of the first ones
abbrev pub records_from : List HistoryEvent → ℕ → List Reservation
records_from history fills = flat_map (λ fill. fill) (drop fills (fills_of history))

-- After the pieces that the reader took come the records of the fills that were lost since. Then comes the
-- rest: what is after the last fill that was taken or lost, from the head's first number on. If the stack is
-- empty, that is all of the unread fills: those from the head on, the tail among them.
pub record IsRest (start : ℕ) (c : Core) (lost rest : List Record) : Type 0 where
  pub partition : IsPartition (committed_records c.history) (pieces_of c.reader.taken) (lost ++ rest)
  pub behind : length (committed_records c.history) ≡ first_of_fill c.history start c.head + length rest
  pub at_rest : c.frames ≡ [] → rest ≡ map as_record (records_from c.history (c.head - start))

-- there is such a rest
abbrev pub RestIsUnread : Type 0
RestIsUnread = (n size start : ℕ) (c : Core)
    → IsRingKept n size start c
    → (lost rest : List Record) × IsRest start c lost rest

-- If the stack is empty, and no closed fill is unread, the rest is what is in the tail, and nothing is skipped
-- before it.
abbrev pub TailIsTheRest : Type 0
TailIsTheRest = (n size start : ℕ) (c : Core)
    → IsRingKept n size start c
    → c.frames ≡ []
    → c.head ≡ c.done
    → IsPartition (committed_records c.history) (pieces_of c.reader.taken) (map as_record (tail_of c.history))
