-- What it means that a record is written whole, in one call.
use Rattle.std.specs.Prelude.{◌≡◌, ℕ, ◌⊎◌, List, [], ◌∷◌, length}
use Rattle.trace_model.specs.declared.numbers.RecordNo.{RecordNo}
use Rattle.trace_model.specs.Words.{padded}
use Rattle.trace_model.specs.Frames.{for_record, Frame}
use Rattle.trace_model.specs.Steps as model
use Rattle.ring_model.specs.FrameOutcomes.{IsLeaving}
use Rattle.nested_writer.specs.declared.fault.WriteFault.{WriteFault}
use Rattle.nested_writer.specs.declared.stack.leave.Ended.{Ended as How}
use Rattle.nested_writer.specs.declared.stack.leave.Ended.TheVariants.{Pending, Full}
use Rattle.ring_frames.specs.declared.answer.Answer.{Answer}
use Rattle.ring_frames.specs.declared.answer.Answer.TheVariants.{Pushed, Reserved, Ended, Refused}
use Rattle.ring_frames.specs.Answers.{top_bytes}
use Rattle.ring_steps.specs.declared.rule.Shape.{Shape}
use Rattle.ring_steps.specs.Views.{Writing}
use Rattle.ring_shared.specs.Value.{WriterValue}
use Rattle.ring_shared.specs.Calls.{IsCall}
use Rattle.ring_shared.specs.Finishing.{Reserves, Leaves}

-- A frame is pushed for a record of this moment, and of `len` bytes of payload.
abbrev pub Pushes : Shape → Writing → (moment len : ℕ) → Answer → Writing → Type 0
Pushes shape before moment len result after = IsCall shape before (model.pushes moment len) result after

-- A frame that was ended is gone if others are below it; alone it makes steps until it is.
abbrev pub GoesAway : Shape → Writing → How → Writing → Type 0
GoesAway shape ended Pending after = after ≡ ended
GoesAway shape ended Full after = (answer : Answer) × Leaves shape [] ended answer after

-- The frame is pushed, above those on the stack, and makes steps until its record is reserved; it ends with this
-- payload, and the zeros up to the end of its slot; and goes away, so the same frames as before are left.
pub record IsWritten (shape : Shape) (before : Writing) (moment : ℕ) (payload : List ℕ) (after : Writing) : Type 0 where
  pub pushed : Writing
  pub reserved : Writing
  pub ended : Writing
  pub number : RecordNo
  pub how : How
  pub push : Pushes shape before moment (length payload) Pushed pushed
  pub reserve : Reserves shape (for_record moment (length payload)) before.frames pushed (Reserved number) reserved
  pub end : IsCall shape reserved (model.ends (padded payload)) (Ended how) ended
  pub goes : GoesAway shape ended how after
  pub frames : after.frames ≡ before.frames

-- The frame is pushed, and makes steps until its record is reserved.
pub record IsReserved (shape : Shape) (before : Writing) (moment len : ℕ) (after : Writing) : Type 0 where
  pub pushed : Writing
  pub number : RecordNo
  pub push : Pushes shape before moment len Pushed pushed
  pub reserve : Reserves shape (for_record moment len) before.frames pushed (Reserved number) after

-- The frame on top ends with the bytes in its slot, and goes away, so those below it are left.
pub record EndsRecord (old new : WriterValue) : Type 0 where
  pub ended : Writing
  pub how : How
  pub end : IsCall old.shape old.part (model.ends (top_bytes old.frames.stack old.frames.stack.frames)) (Ended how)
      ended
  pub goes : GoesAway old.shape ended how new.part
  pub others : (frame : Frame) (below : List Frame) → old.part.frames ≡ frame ∷ below → new.part.frames ≡ below

-- The frame is pushed, and makes steps until it is refused; if it is not gone then, it makes steps until it is. So the
-- same frames as before are left.
pub record IsRefusedPartWay (shape : Shape) (before : Writing) (moment len : ℕ) (fault : WriteFault) (after : Writing)
    : Type 0 where
  pub pushed : Writing
  pub refused : Writing
  pub push : Pushes shape before moment len Pushed pushed
  pub reserve : Reserves shape (for_record moment len) before.frames pushed (Refused fault) refused
  pub goes : (after ≡ refused)
      ⊎ ((frame : Frame)
      × (answer : Answer)
      × (refused.frames ≡ frame ∷ before.frames)
      × IsLeaving frame.kind frame.state
      × Leaves shape before.frames refused answer after)
  pub frames : after.frames ≡ before.frames

-- The frame is refused as it is pushed, or after that.
abbrev pub IsRefusedWrite : Shape → Writing → (moment len : ℕ) → WriteFault → Writing → Type 0
IsRefusedWrite shape before moment len fault after =
    Pushes shape before moment len (Refused fault) after ⊎ IsRefusedPartWay shape before moment len fault after
