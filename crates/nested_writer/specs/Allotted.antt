-- What allot makes of a writer's stack and of its history, by its answer.
use Rattle.std.specs.Prelude.{◌≡◌, ℕ, List, [], ◌∷◌, ◌++◌, Some, None, Result, Ok, Err}
use Rattle.trace_model.specs.History.{HistoryEvent, reserve, leave}
use Rattle.record_words.specs.declared.put.Place.{Place}
use Rattle.nested_writer.specs.declared.fault.WriteFault.{WriteFault}
use Rattle.nested_writer.specs.declared.fault.WriteFault.TheVariants.{TooDeep, TooLong, LateMoment, Crowded, Worn}
use Rattle.nested_writer.specs.declared.fault.WriteFault.TheVariants.{NoFrame, NotReserved}
use Rattle.nested_writer.specs.declared.stack.allot.Allot.{Allot}
use Rattle.nested_writer.specs.declared.stack.allot.Allot.TheVariants.{Fits, NeedsPage}
use Rattle.nested_writer.specs.declared.frame.Purpose.{Purpose}
use Rattle.nested_writer.specs.declared.frame.Purpose.TheVariants.{Record, Close}
use Rattle.nested_writer.specs.declared.frame.Progress.{Progress}
use Rattle.nested_writer.specs.declared.frame.Progress.TheVariants.{Waiting, Through, Reserved, Left}
use Rattle.nested_writer.specs.declared.frame.Frame.{Frame}
use Rattle.nested_writer.specs.Stack.{Stack, opened}
use Rattle.nested_writer.specs.Calls.{with_progress, after_leave, ReservesRecord}
use Rattle.nested_writer.specs.IsStack.{IsStack}

-- if a history is that of the one stack, then with these events after it, it is that of the other
abbrev pub HasEvents : Stack → List HistoryEvent → Stack → Type 0
HasEvents s events after = (start : ℕ) (history : List HistoryEvent)
    → IsStack start history s
    → IsStack start (history ++ events) after

-- when a close frame tried first
abbrev pub first_try : Stack → Progress → ℕ
first_try s (Waiting None) = opened s
first_try s (Waiting (Some noted)) = noted
first_try s (Through noted) = noted
first_try s (Reserved slot) = opened s
first_try s (Left noted) = opened s

-- A frame that gets a place: a reserved one has it already, a record frame reserves its record there, and a close
-- frame is through.
abbrev pub HasFit : Stack → Frame → List Frame → Purpose → Progress → Place → Stack → Type 0
HasFit s top below purpose (Reserved slot) place after = (after ≡ s) × (place ≡ slot.place)
HasFit s top below (Record moment len) (Waiting noted) place after =
    ReservesRecord s top below moment len place after × HasEvents s (reserve ∷ []) after
HasFit s top below Close (Waiting noted) place after =
    (place.len ≡ 0)
    × (after ≡ with_progress s top below (Through (first_try s (Waiting noted))))
    × HasEvents s [] after
HasFit s top below (Record moment len) (Through noted) place after = ⊥
HasFit s top below Close (Through noted) place after =
    (place.len ≡ 0) × (after ≡ with_progress s top below (Through noted)) × HasEvents s [] after
HasFit s top below purpose (Left noted) place after = ⊥

-- One that is refused for want of a page leaves without a record; one that needs a page notes how many fills are begun.
abbrev pub IsAllottedTop : Stack → Frame → List Frame → Result Allot WriteFault → Stack → Type 0
IsAllottedTop s top below (Ok (Fits place)) after = HasFit s top below top.purpose top.progress place after
IsAllottedTop s top below (Ok NeedsPage) after =
    (after ≡ with_progress s top below (Waiting (Some (opened s)))) × HasEvents s [] after
IsAllottedTop s top below (Err Crowded) after =
    (after ≡ after_leave s top below) × HasEvents s (leave None ∷ []) after
IsAllottedTop s top below (Err Worn) after =
    (after ≡ after_leave s top below) × HasEvents s (leave None ∷ []) after
IsAllottedTop s top below (Err NotReserved) after = after ≡ s
IsAllottedTop s top below (Err NoFrame) after = ⊥
IsAllottedTop s top below (Err TooDeep) after = ⊥
IsAllottedTop s top below (Err TooLong) after = ⊥
IsAllottedTop s top below (Err LateMoment) after = ⊥

abbrev pub IsAllotted : Stack → List Frame → Result Allot WriteFault → Stack → Type 0
IsAllotted s [] result after = (result ≡ Err NoFrame) × (after ≡ s)
IsAllotted s (top ∷ below) result after = IsAllottedTop s top below result after
