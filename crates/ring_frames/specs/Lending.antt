-- The payload of the frame on top, which is lent out to be written.
use Rattle.std.specs.Prelude.{◌≡◌, ◌≤◌, ◌↔◌, ℕ, List, [], ◌∷◌, length, Some, Result, Err, IsOk, IfOk}
use Rattle.std.specs.Borrow.{LendsIfOk, MutBor, Fml}
use Rattle.trace_model.specs.Words.{slot_len}
use Rattle.trace_model.specs.Frames.{for_record, Frame as ModelFrame}
use Rattle.trace_model.specs.Ring.{Core}
use Rattle.nested_writer.specs.declared.frame.Slot.{Slot}
use Rattle.nested_writer.specs.declared.frame.Frame.{Frame}
use Rattle.nested_writer.specs.Stack.{Stack}
use Rattle.nested_writer.specs.declared.fault.WriteFault.{WriteFault}
use Rattle.nested_writer.specs.declared.fault.WriteFault.TheVariants.{NoFrame, NotReserved}
use Rattle.record_words.specs.declared.put.Place.{Place}
use Rattle.nested_writer.specs.Calls.{LacksSlot, IsTopSlot}
use Rattle.nested_writer.specs.Next.{top_place}
use Rattle.nested_writer.specs.Lent.{Lent, lent_bytes, with_bytes}
use Rattle.nested_writer.specs.Lending.{IsLent, with_slot, with_top}
use Rattle.nested_writer.specs.contracts.payload.Payload as payload_rows
use Rattle.ring_frames.specs.Value.{FramesValue}
use Rattle.ring_frames.specs.AreFrames.{AreFrames}
use Rattle.ring_frames.specs.Answers.{bytes_in, top_bytes, HoldSlot}
use Rattle.ring_frames.specs.contracts.frames.Frames.{the_row}

-- the frames with these bytes in a slot
abbrev pub with_slot_payload : FramesValue → Slot → List ℕ → FramesValue
with_slot_payload v slot part = record v { stack = with_slot v.stack slot part }

-- the frames with this page in place of that of the payload of the frame on top
abbrev pub with_lent : FramesValue → Lent → FramesValue
with_lent v payload = record v { stack = with_top v.stack payload }

-- if the result is a payload, the frames end with the value that it leaves; else nothing changes
abbrev pub LendsTop : MutBor FramesValue → Result (MutBor Lent) WriteFault → Fml
LendsTop frames result =
    LendsIfOk the_row payload_rows.the_row frames result (with_lent frames.now) frames.now

-- whatever is written there, the frames are those of the same states
abbrev pub StaysFrames : FramesValue → Slot → Type 0
StaysFrames v slot = (n size start : ℕ) (c : Core) (part : List ℕ)
    → AreFrames n size start v c
    → length part ≡ slot.place.len
    → AreFrames n size start (with_slot_payload v slot part) c

-- in each of these states the slot has exactly the room of the record that the frame on top was pushed for
abbrev pub FitsFrame : FramesValue → Slot → Type 0
FitsFrame v slot = (n size start : ℕ) (c : Core) (frame : ModelFrame) (below : List ModelFrame) (moment len : ℕ)
    → AreFrames n size start v c
    → c.frames ≡ frame ∷ below
    → frame.kind ≡ for_record moment len
    → slot.place.len ≡ slot_len len

-- whatever is written there, each slot that a frame below the one on top has reserved holds the same bytes
abbrev pub LeavesOthers : Stack → Slot → Type 0
LeavesOthers s slot = (top : Frame) (below : List Frame) (other : Slot) (part : List ℕ)
    → s.frames ≡ top ∷ below
    → HoldSlot below other
    → bytes_in (with_slot s slot part) other ≡ bytes_in s other

-- What is lent of the frame on top: the payload in its slot, whose bytes it has, and what is written there is in the
-- slot, and nowhere else. There is one if its record is reserved.
pub record LendsSlot (s : Stack) (result : Result (MutBor Lent) WriteFault) : Type 0 where
  pub no_frame : result ≡ Err NoFrame ↔ s.frames ≡ []
  pub not_reserved : result ≡ Err NotReserved ↔ LacksSlot s.frames
  pub held : (place : Place) → top_place s.frames ≡ Some place → IsOk result
  pub lent : IfOk result (λ payload. IsLent s payload.now)
  pub word : IfOk result (λ payload. 4 ≤ length (lent_bytes payload.now))
  pub payload : IfOk result (λ payload. lent_bytes payload.now ≡ top_bytes s s.frames)
  pub written : IfOk result (λ payload. (part : List ℕ)
      → length part ≡ length (lent_bytes payload.now)
      → top_bytes (with_top s (with_bytes payload.now part)) s.frames ≡ part)
  pub others : (slot : Slot) → IsTopSlot s.frames slot → LeavesOthers s slot
