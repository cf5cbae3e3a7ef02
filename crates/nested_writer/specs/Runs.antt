-- Lists of calls on a writer's stack, and what holds after them.
use Rattle.std.specs.Prelude.{◌≡◌, ℕ, List, [], ◌∷◌, length, Some, Result}
use Rattle.trace_model.specs.History.{HistoryEvent, push, push_close, open_fill, reserve, leave, wished}
use Rattle.trace_model.specs.Packing.{IsPacked}
use Rattle.nested_writer.specs.declared.fault.WriteFault.{WriteFault}
use Rattle.nested_writer.specs.declared.stack.allot.Allot.{Allot}
use Rattle.nested_writer.specs.declared.frame.Slot.{Slot}
use Rattle.nested_writer.specs.Stack.{Stack}
use Rattle.nested_writer.specs.Calls.{IsTopSlot}
use Rattle.nested_writer.specs.Allotted.{HasEvents, IsAllotted}
use Rattle.nested_writer.specs.Ends.{IsEnd}
use Rattle.nested_writer.specs.Lending.{with_slot}
use Rattle.nested_writer.specs.IsStack.{IsStack}

-- What one call makes of a stack, by the clauses of the calls: begin, begin_close, allot and reserve_plain, a payload
-- of the slot's length written into the slot that top_mut lends, end, add_page, drop_front, pop_bottom, ask_close and
-- ask_close_for, write, write_alone, write_any and write_if_short; or a call that is refused.
pub data IsStackCall (s after : Stack) : Type 0 where
  begins : (moment len : ℕ) → HasEvents s (push moment len ∷ []) after → IsStackCall s after
  begins_close : HasEvents s (push_close ∷ []) after → IsStackCall s after
  allots : (result : Result Allot WriteFault) → IsAllotted s s.frames result after → IsStackCall s after
  writes : (slot : Slot) (part : List ℕ)
      → IsTopSlot s.frames slot
      → length part ≡ slot.place.len
      → after ≡ with_slot s slot part
      → IsStackCall s after
  ends : IsEnd s s.frames after → IsStackCall s after
  adds_page : HasEvents s (open_fill ∷ []) after → IsStackCall s after
  takes_off : HasEvents s [] after → IsStackCall s after
  asks : HasEvents s (wished ∷ []) after → IsStackCall s after
  writes_at_once : (moment : ℕ) (payload : List ℕ)
      → HasEvents s (push moment (length payload) ∷ reserve ∷ leave (Some payload) ∷ []) after
      → IsStackCall s after
  is_refused : after ≡ s → IsStackCall s after

-- one call after the other, with the stacks that they leave
abbrev pub IsRun : Stack → List Stack → Stack → Type 0
IsRun s [] after = after ≡ s
IsRun s (next ∷ more) after = IsStackCall s next × IsRun next more after

-- The stack is what a packed history leaves: its open pages hold the last fills of the history's reserved records.
pub record HoldsLastFills (start : ℕ) (s : Stack) : Type 0 where
  pub history : List HistoryEvent
  pub is_stack : IsStack start history s
  pub packed : IsPacked history s.size

-- from a new stack on, after any list of calls, refused ones among them
abbrev pub RunsHoldLastFills : Type 0
RunsHoldLastFills = (start : ℕ) (s : Stack) (between : List Stack) (after : Stack)
    → IsStack start [] s
    → IsRun s between after
    → HoldsLastFills start after
