-- What an answer of allot states of the fills that a history leaves.
use Rattle.std.specs.Prelude.{◌≡◌, ◌≢◌, ℕ, ◌+◌, ◌<◌, ◌⊎◌, List, [], ◌∷◌, length, Option, Some, None, Result, Ok, Err}
use Rattle.trace_model.specs.declared.limits.TheConstants.{LINK_FILLS}
use Rattle.trace_model.specs.History.{HistoryEvent, reservation_for, reserved_records}
use Rattle.trace_model.specs.Packing.{tail_of, FitsBehind}
use Rattle.nested_writer.specs.declared.fault.WriteFault.{WriteFault}
use Rattle.nested_writer.specs.declared.fault.WriteFault.TheVariants.{TooDeep, TooLong, LateMoment, Crowded, Worn}
use Rattle.nested_writer.specs.declared.fault.WriteFault.TheVariants.{NoFrame, NotReserved}
use Rattle.nested_writer.specs.declared.stack.allot.Allot.{Allot}
use Rattle.nested_writer.specs.declared.stack.allot.Allot.TheVariants.{Fits, NeedsPage}
use Rattle.nested_writer.specs.declared.frame.Purpose.{Purpose}
use Rattle.nested_writer.specs.declared.frame.Purpose.TheVariants.{Record, Close}
use Rattle.nested_writer.specs.declared.frame.Progress.{Progress}
use Rattle.nested_writer.specs.declared.frame.Progress.TheVariants.{Waiting, Through, Reserved, Left}
use Rattle.nested_writer.specs.declared.frame.Frame.{Frame}
use Rattle.nested_writer.specs.Stack.{Stack, opened, next_number}
use Rattle.nested_writer.specs.Calls.{IsUnchanged, HasLeft, IsCrowded, IsWorn}

-- the record that a frame was pushed for fits after those of the tail
abbrev pub FitsTail : Stack → List HistoryEvent → (moment len : ℕ) → Type 0
FitsTail s history moment len =
    FitsBehind s.size (tail_of history) (reservation_for moment len (reserved_records history))

-- a fill was begun since this number of them was noted
abbrev pub IsBegunSince : Stack → Option ℕ → Type 0
IsBegunSince s None = ⊥
IsBegunSince s (Some noted) = noted ≢ opened s

-- The frame needs the next fill: its record doesn't fit in the tail; or it closes one that holds a record, and no fill
-- was begun since it tried first.
abbrev pub WantsFill : Stack → List HistoryEvent → Purpose → Progress → Type 0
WantsFill s history (Record moment len) (Waiting noted) = FitsTail s history moment len → ⊥
WantsFill s history Close (Waiting noted) = (tail_of history ≢ []) × IsUnchanged s noted
WantsFill s history (Record moment len) (Through noted) = ⊥
WantsFill s history Close (Through noted) = (tail_of history ≢ []) × (noted ≡ opened s)
WantsFill s history purpose (Reserved slot) = ⊥
WantsFill s history purpose (Left noted) = ⊥

-- It needs none: its record fits in the tail, and has the next number; or nothing is left to close; or it has its
-- record already.
abbrev pub HasItsFill : Stack → List HistoryEvent → Purpose → Progress → Type 0
HasItsFill s history (Record moment len) (Waiting noted) =
    FitsTail s history moment len × (next_number s ≡ length (reserved_records history))
HasItsFill s history Close (Waiting noted) = (tail_of history ≡ []) ⊎ IsBegunSince s noted
HasItsFill s history (Record moment len) (Through noted) = ⊥
HasItsFill s history Close (Through noted) = (tail_of history ≡ []) ⊎ (noted ≢ opened s)
HasItsFill s history purpose (Reserved slot) = Unit {0}
HasItsFill s history purpose (Left noted) = ⊥

abbrev pub IsAllotAnswerTop : Stack → List HistoryEvent → Frame → Result Allot WriteFault → Type 0
IsAllotAnswerTop s history top (Ok (Fits place)) = HasItsFill s history top.purpose top.progress
IsAllotAnswerTop s history top (Ok NeedsPage) =
    WantsFill s history top.purpose top.progress × (IsCrowded s → ⊥) × (opened s + s.pages < LINK_FILLS)
IsAllotAnswerTop s history top (Err Crowded) = WantsFill s history top.purpose top.progress × IsCrowded s
IsAllotAnswerTop s history top (Err Worn) =
    WantsFill s history top.purpose top.progress × (IsCrowded s → ⊥) × IsWorn s
IsAllotAnswerTop s history top (Err NotReserved) = HasLeft top.progress
IsAllotAnswerTop s history top (Err NoFrame) = ⊥
IsAllotAnswerTop s history top (Err TooDeep) = ⊥
IsAllotAnswerTop s history top (Err TooLong) = ⊥
IsAllotAnswerTop s history top (Err LateMoment) = ⊥

-- The answer for these frames: whether the one on top needs a fill, by the history, and whether it may have one.
abbrev pub IsAllotAnswer : Stack → List HistoryEvent → List Frame → Result Allot WriteFault → Type 0
IsAllotAnswer s history [] result = result ≡ Err NoFrame
IsAllotAnswer s history (top ∷ below) result = IsAllotAnswerTop s history top result
