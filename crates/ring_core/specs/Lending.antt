-- The payload of the frame on top, which a ring lends out to be written.
use Rattle.std.specs.Prelude.{◌≡◌, ℕ, List, [], ◌∷◌, length, Result}
use Rattle.std.specs.Borrow.{LendsIfOk, MutBor, Fml}
use Rattle.trace_model.specs.Words.{slot_len}
use Rattle.trace_model.specs.Frames.{for_record, Frame as ModelFrame}
use Rattle.trace_model.specs.Ring.{Core}
use Rattle.nested_writer.specs.declared.frame.Slot.{Slot}
use Rattle.nested_writer.specs.declared.frame.Progress.{Progress}
use Rattle.nested_writer.specs.declared.frame.Progress.TheVariants.{Waiting, Through, Reserved, Left}
use Rattle.nested_writer.specs.declared.frame.Frame.{Frame}
use Rattle.nested_writer.specs.Stack.{Stack}
use Rattle.nested_writer.specs.declared.fault.WriteFault.{WriteFault}
use Rattle.nested_writer.specs.Lent.{Lent}
use Rattle.nested_writer.specs.Lending.{with_slot}
use Rattle.nested_writer.specs.Lending as stack
use Rattle.nested_writer.specs.contracts.payload.Payload as payload_rows
use Rattle.ring_core.specs.Value.{CoreValue}
use Rattle.ring_core.specs.IsCore.{IsCore}
use Rattle.ring_frames.specs.Answers.{top_bytes}
use Rattle.ring_core.specs.contracts.ring.Core.{the_row}

-- the stack with these bytes in the slot that the frame has reserved
abbrev pub with_reserved : Stack → Progress → List ℕ → Stack
with_reserved s (Waiting noted) part = s
with_reserved s (Through noted) part = s
with_reserved s (Reserved slot) part = with_slot s slot part
with_reserved s (Left noted) part = s

-- the stack with these bytes in the slot of the frame on top
abbrev pub with_top_bytes : Stack → List Frame → List ℕ → Stack
with_top_bytes s [] part = s
with_top_bytes s (top ∷ below) part = with_reserved s top.progress part

-- the ring with these bytes in the slot of the frame on top
abbrev pub with_top_payload : CoreValue → List ℕ → CoreValue
with_top_payload v part = record v { stack = with_top_bytes v.stack v.stack.frames part }

-- the ring with these bytes in a slot
abbrev pub with_slot_payload : CoreValue → Slot → List ℕ → CoreValue
with_slot_payload v slot part = record v { stack = with_slot v.stack slot part }

-- the ring with this page in place of that of the payload of the frame on top
abbrev pub with_lent : CoreValue → Lent → CoreValue
with_lent v payload = record v { stack = stack.with_top v.stack payload }

-- if the result is a payload, the ring ends with the value that it leaves; else nothing changes
abbrev pub LendsTop : MutBor CoreValue → Result (MutBor Lent) WriteFault → Fml
LendsTop core result = LendsIfOk the_row payload_rows.the_row core result (with_lent core.now) core.now

-- whatever is written there, the ring is in the same states
abbrev pub StaysRing : CoreValue → Type 0
StaysRing v = (n size start : ℕ) (c : Core) (part : List ℕ)
    → IsCore n size start v c
    → length part ≡ length (top_bytes v.stack v.stack.frames)
    → IsCore n size start (with_top_payload v part) c

-- in each state that the ring is in, the slot has exactly the room of the record that the frame on top was pushed for
abbrev pub FitsFrame : CoreValue → Slot → Type 0
FitsFrame v slot = (n size start : ℕ) (c : Core) (frame : ModelFrame) (below : List ModelFrame) (moment len : ℕ)
    → IsCore n size start v c
    → c.frames ≡ frame ∷ below
    → frame.kind ≡ for_record moment len
    → slot.place.len ≡ slot_len len
