-- The laws of a running ring's whole calls, as statements: each is a clause of a function of src/laws.rt. They say what
-- `finish_top` and `write` append to the history of a writer's frames, whatever other frames are below.
use Rattle.std.specs.Prelude.{◌≡◌, ℕ, ◌+◌, ◌⊎◌, List, [], ◌∷◌, ◌++◌, length, Some, None}
use Rattle.trace_model.specs.declared.numbers.RecordNo.{RecordNo}
use Rattle.trace_model.specs.Words.{padded}
use Rattle.trace_model.specs.History.{HistoryEvent, push, push_close, open_fill, reserve, leave, wished, Reservation}
use Rattle.trace_model.specs.History.{reservation_for, reserved_records, IsHistory}
use Rattle.trace_model.specs.Packing.{IsPacked}
use Rattle.trace_model.specs.Frames.{for_close, waiting, left, Frame}
use Rattle.ring_model.specs.FrameOutcomes.{IsReserving}
use Rattle.nested_writer.specs.declared.fault.WriteFault.{WriteFault}
use Rattle.ring_frames.specs.declared.answer.Answer.{Answer}
use Rattle.ring_frames.specs.declared.answer.Answer.TheVariants.{Reserved, Refused}
use Rattle.ring_steps.specs.declared.rule.Shape.{Shape}
use Rattle.ring_steps.specs.Views.{Writing}
use Rattle.ring_shared.specs.Value.{WriterValue}
use Rattle.ring_shared.specs.Calls.{IsWriter}
use Rattle.ring_shared.specs.Finishing.{Finishes}
use Rattle.ring_shared.specs.WholeWrites.{IsWritten, IsRefusedWrite}

-- fills that are begun, and nothing else
abbrev pub AreFills : List HistoryEvent → Type 0
AreFills [] = Unit {0}
AreFills (push moment len ∷ events) = ⊥
AreFills (push_close ∷ events) = ⊥
AreFills (open_fill ∷ events) = AreFills events
AreFills (reserve ∷ events) = ⊥
AreFills (leave payload ∷ events) = ⊥
AreFills (wished ∷ events) = ⊥

-- what a frame that has left does for the reader: it grants wishes, and begins fills
abbrev pub AreForReader : List HistoryEvent → Type 0
AreForReader [] = Unit {0}
AreForReader (push moment len ∷ events) = ⊥
AreForReader (push_close ∷ events) = ⊥
AreForReader (open_fill ∷ events) = AreForReader events
AreForReader (reserve ∷ events) = ⊥
AreForReader (leave payload ∷ events) = ⊥
AreForReader (wished ∷ events) = AreForReader events

-- ---- `finish_top`

-- A record frame that waits begins fills, and reserves the next record;
abbrev pub FinishesReserve : Type 0
FinishesReserve = (shape : Shape) (before : Writing) (frame : Frame) (below : List Frame) (number : RecordNo)
    (after : Writing)
    → before.frames ≡ frame ∷ below
    → IsReserving frame.kind frame.state
    → Finishes shape before (Reserved number) after
    → (fills : List HistoryEvent)
    × AreFills fills
    × (number.0 ≡ length (reserved_records before.history))
    × (after.history ≡ before.history ++ (fills ++ reserve ∷ []))

-- or it is refused: it begins fills, and leaves without a record.
abbrev pub FinishesRefused : Type 0
FinishesRefused = (shape : Shape) (before : Writing) (frame : Frame) (below : List Frame) (fault : WriteFault)
    (after : Writing)
    → before.frames ≡ frame ∷ below
    → IsReserving frame.kind frame.state
    → Finishes shape before (Refused fault) after
    → (fills : List HistoryEvent) × AreFills fills × (after.history ≡ before.history ++ (fills ++ leave None ∷ []))

-- A close frame begins fills and leaves, and then acts for the reader;
abbrev pub FinishesClose : Type 0
FinishesClose = (shape : Shape) (before : Writing) (frame : Frame) (below : List Frame) (result : Answer)
    (after : Writing)
    → before.frames ≡ frame ∷ below
    → frame.kind ≡ for_close
    → frame.state ≡ waiting
    → Finishes shape before result after
    → (fills for_reader : List HistoryEvent)
    × AreFills fills
    × AreForReader for_reader
    × (after.history ≡ before.history ++ ((fills ++ leave None ∷ []) ++ for_reader))

-- and one that has left acts for the reader alone.
abbrev pub FinishesLeft : Type 0
FinishesLeft = (shape : Shape) (before : Writing) (frame : Frame) (below : List Frame) (result : Answer)
    (after : Writing)
    → before.frames ≡ frame ∷ below
    → frame.state ≡ left
    → Finishes shape before result after
    → (for_reader : List HistoryEvent) × AreForReader for_reader × (after.history ≡ before.history ++ for_reader)

-- ---- `write`

-- A record that is written whole is pushed, fills are begun, it is reserved once, and its frame leaves with the
-- payload, padded; then it acts for the reader.
abbrev pub WritesAppend : Type 0
WritesAppend = (shape : Shape) (before : Writing) (moment : ℕ) (payload : List ℕ) (after : Writing)
    → IsWritten shape before moment payload after
    → (fills for_reader : List HistoryEvent)
    × AreFills fills
    × AreForReader for_reader
    × (after.history
    ≡ before.history
    ++ push moment (length payload) ∷ (fills ++ reserve ∷ leave (Some (padded payload)) ∷ for_reader))

-- A write that is refused appends nothing; or its frame is pushed, fills are begun, and it leaves without a record, and
-- acts for the reader.
abbrev pub RefusedWritesAppend : Type 0
RefusedWritesAppend = (shape : Shape) (before : Writing) (moment len : ℕ) (fault : WriteFault) (after : Writing)
    → IsRefusedWrite shape before moment len fault after
    → (after.history ≡ before.history)
    ⊎ ((fills for_reader : List HistoryEvent)
    × AreFills fills
    × AreForReader for_reader
    × (after.history ≡ before.history ++ push moment len ∷ (fills ++ leave None ∷ for_reader)))

-- the record that a write of this moment and payload adds to these: its moment is raised to the last one's, and its
-- bytes are the payload, padded
abbrev pub written_record : ℕ → List ℕ → List Reservation → Reservation
written_record moment payload records =
    record (reservation_for moment (length payload) records) { bytes = Some (padded payload) }

-- So a write adds its record to the reserved ones, and nothing else;
abbrev pub WritesReserve : Type 0
WritesReserve = (shape : Shape) (before : Writing) (moment : ℕ) (payload : List ℕ) (after : Writing)
    → IsWritten shape before moment payload after
    → reserved_records after.history
    ≡ reserved_records before.history ++ written_record moment payload (reserved_records before.history) ∷ []

-- and one that is refused adds none.
abbrev pub RefusedWritesReserveNone : Type 0
RefusedWritesReserveNone = (shape : Shape) (before : Writing) (moment len : ℕ) (fault : WriteFault) (after : Writing)
    → IsRefusedWrite shape before moment len fault after
    → reserved_records after.history ≡ reserved_records before.history

-- The frames are those that there were before it.
abbrev pub RefusedWritesKeepFrames : Type 0
RefusedWritesKeepFrames = (shape : Shape) (before : Writing) (moment len : ℕ) (fault : WriteFault) (after : Writing)
    → IsRefusedWrite shape before moment len fault after
    → after.frames ≡ before.frames

-- A payload that was padded stays as it is.
abbrev pub PaddedTwice : Type 0
PaddedTwice = (payload : List ℕ) → padded (padded payload) ≡ padded payload

-- ---- the writer's end

-- The history of a writer's part keeps the discipline of the stack, and is packed in pages of the ring's size. The
-- writer reports the number of its oldest fill that isn't closed, and how many frames it has. If it has none, all fills
-- that are begun are closed but the tail.
pub record HasHistory (v : WriterValue) : Type 0 where
  pub allowed : IsHistory v.part.history
  pub packed : IsPacked v.part.history v.shape.size
  pub done_is : v.frames.stack.done ≡ v.part.done
  pub depth_is : length v.frames.stack.frames ≡ length v.part.frames
  pub at_rest : v.part.frames ≡ [] → v.part.done + 1 ≡ v.part.opened

abbrev pub WritersHaveHistories : Type 0
WritersHaveHistories = (v : WriterValue) → IsWriter v → HasHistory v
