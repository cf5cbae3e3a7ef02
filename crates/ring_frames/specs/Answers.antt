-- What the answer of a ring means in the model; and the bytes that are in the slot of the frame on top.
use Rattle.std.specs.Prelude.{◌≡◌, ℕ, ◌-◌, if◌then◌else◌, ◌==◌, List, [], ◌∷◌, ◌⊎◌, replicate, slice_index_or}
use Rattle.trace_model.specs.Frames.{too_deep, too_long, late_moment, crowded, worn, no_frame, not_reserved}
use Rattle.trace_model.specs.Frames as frames_model
use Rattle.trace_model.specs.Overwriting.{bytes_at}
use Rattle.trace_model.specs.Ring.{TakenFill}
use Rattle.trace_model.specs.Steps as model
use Rattle.trace_model.specs.declared.numbers.RecordNo.{RecordNo}
use Rattle.page_image.specs.Contents.{Contents}
use Rattle.nested_writer.specs.declared.fault.WriteFault.{WriteFault}
use Rattle.nested_writer.specs.declared.fault.WriteFault.TheVariants.{TooDeep, TooLong, LateMoment, Crowded, Worn}
use Rattle.nested_writer.specs.declared.fault.WriteFault.TheVariants.{NoFrame, NotReserved}
use Rattle.nested_writer.specs.declared.stack.leave.Ended.TheVariants.{Pending, Full}
use Rattle.nested_writer.specs.declared.frame.Slot.{Slot}
use Rattle.nested_writer.specs.declared.frame.Progress.{Progress}
use Rattle.nested_writer.specs.declared.frame.Progress.TheVariants.{Waiting, Through, Reserved as HasReserved, Left}
use Rattle.nested_writer.specs.declared.frame.Frame.{Frame}
use Rattle.nested_writer.specs.Stack.{Stack}
use Rattle.nested_writer.specs.Next.{below_top}
use Rattle.nested_writer.specs.Calls.{LacksSlot, IsTopSlot}
use Rattle.nested_writer.specs.Released.{IsWrittenPage}
use Rattle.ring_frames.specs.declared.answer.Answer.{Answer}
use Rattle.ring_frames.specs.declared.answer.Answer.TheVariants.{Pushed, Going, Reserved, Ended, Gone, Refused, Looking}
use Rattle.ring_frames.specs.declared.answer.Answer.TheVariants.{Empty, Moving, Taken, Wished}

-- ---- payloads

-- the page that a stack has of an open fill
abbrev pub open_page : Stack → ℕ → Contents
open_page s fill = if fill == s.tail.fill then s.tail else slice_index_or s.older (fill - s.done) s.tail

-- the bytes that are in a slot
abbrev pub bytes_in : Stack → Slot → List ℕ
bytes_in s slot = bytes_at slot.place.start slot.place.len (open_page s slot.fill).bytes

abbrev pub bytes_of_progress : Stack → Progress → List ℕ
bytes_of_progress s (Waiting noted) = []
bytes_of_progress s (Through noted) = []
bytes_of_progress s (HasReserved slot) = bytes_in s slot
bytes_of_progress s (Left noted) = []

-- the bytes in the slot of the frame on top, if it has reserved one
abbrev pub top_bytes : Stack → List Frame → List ℕ
top_bytes s [] = []
top_bytes s (top ∷ below) = bytes_of_progress s top.progress

-- a frame of these has reserved this slot
abbrev pub HoldSlot : List Frame → Slot → Type 0
HoldSlot [] slot = ⊥
HoldSlot (f ∷ frames) slot = (f.progress ≡ HasReserved slot) ⊎ HoldSlot frames slot

-- Each slot that a frame of the old stack has reserved stays reserved in the new one, with the same bytes.
abbrev pub KeepsPayloads : Stack → Stack → Type 0
KeepsPayloads old new = (slot : Slot)
    → HoldSlot old.frames slot
    → HoldSlot new.frames slot × (bytes_in old slot ≡ bytes_in new slot)

-- When the frame on top ends, each slot that was reserved keeps its bytes, and that of a frame below stays reserved.
abbrev pub EndsPayload : Stack → Stack → Type 0
EndsPayload old new = (slot : Slot)
    → HoldSlot old.frames slot
    → (bytes_in old slot ≡ bytes_in new slot) × (HoldSlot (below_top old.frames) slot → HoldSlot new.frames slot)

-- ---- answers

abbrev pub refusal_of : WriteFault → frames_model.WriteFault
refusal_of TooDeep = too_deep
refusal_of TooLong = too_long
refusal_of LateMoment = late_moment
refusal_of Crowded = crowded
refusal_of Worn = worn
refusal_of NoFrame = no_frame
refusal_of NotReserved = not_reserved

-- The page is that of a fill which the reader took, with its number, its first record's number, and all its records;
-- and `missed` records were lost before it.
pub record IsTakenPage (size : ℕ) (page : Contents) (missed : ℕ) (t : TakenFill) : Type 0 where
  pub written : IsWrittenPage size t.fill t.held page
  pub missed_is : missed ≡ t.skipped

-- the answer means that of the model
abbrev pub IsAnswerOf : (size : ℕ) → Answer → model.Answer → Type 0
IsAnswerOf size Pushed reported = reported ≡ model.pushed
IsAnswerOf size Going reported = reported ≡ model.going
IsAnswerOf size (Reserved number) reported = reported ≡ model.reserved_as number.0
IsAnswerOf size (Ended Pending) reported = reported ≡ model.pending
IsAnswerOf size (Ended Full) reported = reported ≡ model.full
IsAnswerOf size Gone reported = reported ≡ model.gone
IsAnswerOf size (Refused fault) reported = reported ≡ model.refused (refusal_of fault)
IsAnswerOf size (Looking body) reported = reported ≡ model.reading
IsAnswerOf size (Empty done body) reported = reported ≡ model.empty done
IsAnswerOf size (Moving fill body) reported = reported ≡ model.moving fill.0
IsAnswerOf size (Taken page missed) reported =
    (t : TakenFill) × (reported ≡ model.page_taken t) × IsTakenPage size page missed t
IsAnswerOf size (Wished fill) reported = reported ≡ model.wished_for fill.0

-- A slot that is reserved by this answer holds only zeros.
abbrev pub ZerosSlot : Stack → Answer → Stack → Type 0
ZerosSlot old result new = (number : RecordNo) (slot : Slot)
    → result ≡ Reserved number
    → LacksSlot old.frames
    → IsTopSlot new.frames slot
    → bytes_in new slot ≡ replicate slot.place.len 0
