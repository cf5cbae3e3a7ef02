-- The payload that a stack lends out to be written.
use Rattle.std.specs.Prelude.{◌≡◌, ℕ, ◌-◌, if◌then◌else◌, ◌==◌, List, length, slice_set, slice_index_or, Option, Some}
use Rattle.std.specs.Prelude.{None, Result}
use Rattle.std.specs.Borrow.{Lends, LendsIfOk, MutBor, Fml, Array, u8}
use Rattle.page_image.specs.Contents.{Contents}
use Rattle.page_image.specs.Lending.{with_payload}
use Rattle.nested_writer.specs.declared.fault.WriteFault.{WriteFault}
use Rattle.nested_writer.specs.declared.frame.Slot.{Slot}
use Rattle.nested_writer.specs.Lent.{Lent, OlderPages, lent_bytes, with_bytes}
use Rattle.nested_writer.specs.Stack.{Stack}
use Rattle.nested_writer.specs.Calls.{top_slot, IsTopSlot}
use Rattle.nested_writer.specs.IsStack.{IsOpenPage}
use Rattle.nested_writer.specs.contracts.older.Older as older_rows
use Rattle.nested_writer.specs.contracts.payload.Payload as payload_rows
use Rattle.nested_writer.specs.contracts.stack.WriterStack as stack_rows

-- the stack with these bytes in the slot of an open page
abbrev pub with_slot : Stack → Slot → List ℕ → Stack
with_slot s slot part =
    if slot.fill == s.tail.fill
    then record s { tail = with_payload s.tail slot.place.start part }
    else record s {
      older = slice_set s.older (slot.fill - s.done)
          (with_payload (slice_index_or s.older (slot.fill - s.done) s.tail) slot.place.start part);
    }

-- the open pages with that of a payload in place of that of a slot, if there is one: the older ones, and the tail
unfoldable pub older_with : Stack → Option Slot → Lent → List Contents
older_with s None payload = s.older
older_with s (Some slot) payload =
    if slot.fill == s.tail.fill then s.older else slice_set s.older (slot.fill - s.done) payload.page

unfoldable pub tail_with : Stack → Option Slot → Lent → Contents
tail_with s None payload = s.tail
tail_with s (Some slot) payload = if slot.fill == s.tail.fill then payload.page else s.tail

-- the stack with this page in place of that of the slot of the frame on top; all else as it was
abbrev pub with_top : Stack → Lent → Stack
with_top s payload = record s {
  older = older_with s (top_slot s.frames) payload;
  tail = tail_with s (top_slot s.frames) payload;
}

-- the older pages end with the last page of the result in place of that of this index
abbrev pub LendsPage : MutBor OlderPages → ℕ → MutBor Lent → Fml
LendsPage older index result =
    Lends older_rows.the_row payload_rows.the_row older result
    (λ payload. record older.now { pages = slice_set older.now.pages index payload.page })

-- the payload ends with its bytes set to the last ones of the result
abbrev pub LendsBytes : MutBor Lent → MutBor (List ℕ) → Fml
LendsBytes payload result = Lends payload_rows.the_row (Array u8 0) payload result (with_bytes payload.now)

-- if the result is a payload, the stack ends with the last value of it; else nothing changes
abbrev pub LendsTop : MutBor Stack → Result (MutBor Lent) WriteFault → Fml
LendsTop stack result = LendsIfOk stack_rows.the_row payload_rows.the_row stack result (with_top stack.now) stack.now

-- The payload is that of the frame on top: it is in the page of an open fill, at the place that the frame has
-- reserved. And the stack with bytes in the payload is that with these in the slot.
pub record IsLent (s : Stack) (payload : Lent) : Type 0 where
  pub slot : Slot
  pub on_top : IsTopSlot s.frames slot
  pub open_page : IsOpenPage s.done s.older s.tail slot.fill payload.page
  pub place_is : payload.place ≡ slot.place
  pub long : length (lent_bytes payload) ≡ payload.place.len
  pub in_slot : (part : List ℕ) → with_top s (with_bytes payload part) ≡ with_slot s slot part
