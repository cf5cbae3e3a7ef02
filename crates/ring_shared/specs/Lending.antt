-- The payload of the frame on top, which a writer lends out to be written.
use Rattle.std.specs.Prelude.{◌≡◌, ℕ, List, ◌∷◌, Result}
use Rattle.std.specs.Borrow.{LendsIfOk, MutBor, Fml}
use Rattle.trace_model.specs.Words.{slot_len}
use Rattle.trace_model.specs.Frames.{for_record, Frame}
use Rattle.nested_writer.specs.declared.fault.WriteFault.{WriteFault}
use Rattle.nested_writer.specs.declared.frame.Slot.{Slot}
use Rattle.nested_writer.specs.Lent.{Lent}
use Rattle.nested_writer.specs.contracts.payload.Payload as payload_rows
use Rattle.ring_frames.specs.Lending as frames
use Rattle.ring_shared.specs.Value.{WriterValue}
use Rattle.ring_shared.specs.contracts.writer.Writer.{the_row}

-- the writer with these bytes in a slot
abbrev pub with_slot_payload : WriterValue → Slot → List ℕ → WriterValue
with_slot_payload v slot part = record v { frames = frames.with_slot_payload v.frames slot part }

-- the writer with this page in place of that of the payload of the frame on top
abbrev pub with_lent : WriterValue → Lent → WriterValue
with_lent v payload = record v { frames = frames.with_lent v.frames payload }

-- if the result is a payload, the writer ends with the value that it leaves; else nothing changes
abbrev pub LendsTop : MutBor WriterValue → Result (MutBor Lent) WriteFault → Fml
LendsTop writer result =
    LendsIfOk the_row payload_rows.the_row writer result (with_lent writer.now) writer.now

-- the slot has exactly the room of the record that the frame on top was pushed for
abbrev pub FitsFrame : WriterValue → Slot → Type 0
FitsFrame v slot = (frame : Frame) (below : List Frame) (moment len : ℕ)
    → v.part.frames ≡ frame ∷ below
    → frame.kind ≡ for_record moment len
    → slot.place.len ≡ slot_len len
