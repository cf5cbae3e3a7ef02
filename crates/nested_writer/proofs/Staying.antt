-- What each call makes of a stack is again that of a history.
use Rattle.std.proofs.Common.{◌≡◌, ℕ, List, [], ◌∷◌, ◌++◌, Some, None, Result, Ok, Err, refl, sym, subst}
use Rattle.trace_model.specs.History.{HistoryEvent, reserve, leave}
use Rattle.trace_model.specs.Overwriting.{bytes_at}
use Rattle.record_words.specs.declared.put.Place.{Place}
use Rattle.nested_writer.specs.declared.fault.WriteFault.{WriteFault}
use Rattle.nested_writer.specs.declared.fault.WriteFault.TheVariants.{TooDeep, TooLong, LateMoment, Crowded, Worn}
use Rattle.nested_writer.specs.declared.fault.WriteFault.TheVariants.{NoFrame, NotReserved}
use Rattle.nested_writer.specs.declared.stack.allot.Allot.{Allot}
use Rattle.nested_writer.specs.declared.stack.allot.Allot.TheVariants.{Fits, NeedsPage}
use Rattle.nested_writer.specs.declared.frame.Purpose.{Purpose}
use Rattle.nested_writer.specs.declared.frame.Purpose.TheVariants.{Record, Close}
use Rattle.nested_writer.specs.declared.frame.Slot.{Slot}
use Rattle.nested_writer.specs.declared.frame.Progress.{Progress}
use Rattle.nested_writer.specs.declared.frame.Progress.TheVariants.{Waiting, Through, Reserved, Left}
use Rattle.nested_writer.specs.declared.frame.Frame.{Frame}
use Rattle.nested_writer.specs.Stack.{Stack}
use Rattle.nested_writer.specs.Calls.{IsTopSlot}
use Rattle.nested_writer.specs.Allotted.{HasEvents, HasFit, IsAllotted}
use Rattle.nested_writer.specs.Ends.{HasEnded, IsEnd}
use Rattle.nested_writer.specs.IsStack.{IsStack, IsReachedStack}
use Rattle.nested_writer.proofs.Lending.{slot_lies}

-- the stack is that of some history, from this fill on
abbrev pub StandsFrom : ℕ → Stack → Type 0
StandsFrom start s = (history : List HistoryEvent) × IsStack start history s

pub has_events : (start : ℕ) (s after : Stack) (events : List HistoryEvent) → HasEvents s events after
    → StandsFrom start s → StandsFrom start after
has_events start s after events acts (h, k) = (h ++ events, acts start h k)

pub unmoved : (start : ℕ) (s after : Stack) → after ≡ s → StandsFrom start s → StandsFrom start after
unmoved start s after same st = subst (StandsFrom start) (sym same) st

fit_stands : (start : ℕ) (s after : Stack) (top : Frame) (below : List Frame) (purpose : Purpose) (progress : Progress)
    (place : Place) → HasFit s top below purpose progress place after → StandsFrom start s → StandsFrom start after
fit_stands start s after top below (Record moment len) (Reserved slot) place fit st = unmoved start s after fit.0 st
fit_stands start s after top below Close (Reserved slot) place fit st = unmoved start s after fit.0 st
fit_stands start s after top below (Record moment len) (Waiting noted) place fit st =
    has_events start s after (reserve ∷ []) fit.1 st
fit_stands start s after top below Close (Waiting noted) place fit st = has_events start s after [] fit.2 st
fit_stands start s after top below (Record moment len) (Through noted) place fit st = absurd fit
fit_stands start s after top below Close (Through noted) place fit st = has_events start s after [] fit.2 st
fit_stands start s after top below (Record moment len) (Left noted) place fit st = absurd fit
fit_stands start s after top below Close (Left noted) place fit st = absurd fit

pub allotted_stands : (start : ℕ) (s after : Stack) (frames : List Frame) (result : Result Allot WriteFault)
    → IsAllotted s frames result after → StandsFrom start s → StandsFrom start after
allotted_stands start s after [] result is st = unmoved start s after is.1 st
allotted_stands start s after (top ∷ below) (Ok (Fits place)) is st =
    fit_stands start s after top below top.purpose top.progress place is st
allotted_stands start s after (top ∷ below) (Ok NeedsPage) is st = has_events start s after [] is.1 st
allotted_stands start s after (top ∷ below) (Err Crowded) is st = has_events start s after (leave None ∷ []) is.1 st
allotted_stands start s after (top ∷ below) (Err Worn) is st = has_events start s after (leave None ∷ []) is.1 st
allotted_stands start s after (top ∷ below) (Err NotReserved) is st = unmoved start s after is st
allotted_stands start s after (top ∷ below) (Err NoFrame) is st = absurd is
allotted_stands start s after (top ∷ below) (Err TooDeep) is st = absurd is
allotted_stands start s after (top ∷ below) (Err TooLong) is st = absurd is
allotted_stands start s after (top ∷ below) (Err LateMoment) is st = absurd is

ended_stands : (start : ℕ) (s after : Stack) (progress : Progress)
    → ((slot : Slot) → progress ≡ Reserved slot → IsTopSlot s.frames slot) → HasEnded s progress after
    → StandsFrom start s → StandsFrom start after
ended_stands start s after (Waiting noted) top ended st = absurd ended
ended_stands start s after (Through noted) top ended st = has_events start s after (leave None ∷ []) ended st
ended_stands start s after (Reserved slot) top ended (h, k) =
    let (len, lies) = slot_lies start h s slot (top slot refl) k in
    has_events start s after (leave (Some (bytes_at slot.place.start slot.place.len lies.page.bytes)) ∷ [])
    (ended lies.page lies.open_page) (h, k)
ended_stands start s after (Left noted) top ended st = absurd ended

pub end_stands : (start : ℕ) (s after : Stack) (frames : List Frame) → s.frames ≡ frames → IsEnd s frames after
    → StandsFrom start s → StandsFrom start after
end_stands start s after [] same is st = absurd is
end_stands start s after (top ∷ below) same is st =
    ended_stands start s after top.progress (λ slot has. subst (λ (fs : List Frame). IsTopSlot fs slot) (sym same) has)
    is.1 st

-- ---- from some fill on

some_start : (start : ℕ) (s : Stack) → StandsFrom start s → IsReachedStack s
unfolding IsReachedStack
some_start start s (h, k) = (start, h, k)

pub has_events_stays : (s after : Stack) (events : List HistoryEvent) → HasEvents s events after → IsReachedStack s
    → IsReachedStack after
unfolding IsReachedStack
has_events_stays s after events acts (start, h, k) =
    some_start start after (has_events start s after events acts (h, k))

pub allotted_stays : (s after : Stack) (result : Result Allot WriteFault) → IsAllotted s s.frames result after
    → IsReachedStack s → IsReachedStack after
unfolding IsReachedStack
allotted_stays s after result is (start, h, k) =
    some_start start after (allotted_stands start s after s.frames result is (h, k))

pub ended_stays : (s after : Stack) → IsEnd s s.frames after → IsReachedStack s → IsReachedStack after
unfolding IsReachedStack
ended_stays s after is (start, h, k) = some_start start after (end_stands start s after s.frames refl is (h, k))
