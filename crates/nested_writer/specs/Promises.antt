-- What the calls of a writer's stack promise, each in one word: a call and its rarer cases, which are functions of
-- their own, promise the same.
use Rattle.std.specs.Prelude.{◌≡◌, ℕ, ◌<◌, ◌≤◌, ◌↔◌, max, List, [], ◌∷◌, ◌++◌, length, Some, None, Result, Ok, Err}
use Rattle.std.specs.Prelude.{IsOk, IfOk, IfErr, OnOk, OnErr}
use Rattle.trace_model.specs.declared.limits.TheConstants.{MAX_FRAMES, MOMENT_LIMIT}
use Rattle.trace_model.specs.Words.{padded}
use Rattle.trace_model.specs.History.{HistoryEvent, push, reserve, leave}
use Rattle.trace_model.specs.Steps.{IsTooLong}
use Rattle.page_image.specs.Contents.{records_of_page}
use Rattle.record_words.specs.declared.put.Place.{Place}
use Rattle.nested_writer.specs.declared.fault.WriteFault.{WriteFault}
use Rattle.nested_writer.specs.declared.fault.WriteFault.TheVariants.{TooDeep, TooLong, LateMoment, Crowded, Worn}
use Rattle.nested_writer.specs.declared.fault.WriteFault.TheVariants.{NoFrame, NotReserved}
use Rattle.nested_writer.specs.declared.frame.Purpose.TheVariants.{Record}
use Rattle.nested_writer.specs.declared.frame.Progress.TheVariants.{Waiting}
use Rattle.nested_writer.specs.declared.stack.allot.Allot.{Allot}
use Rattle.nested_writer.specs.declared.stack.allot.Allot.TheVariants as allot
use Rattle.nested_writer.specs.declared.stack.leave.Ended.{Ended}
use Rattle.nested_writer.specs.declared.stack.leave.Ended.TheVariants.{Pending, Full}
use Rattle.nested_writer.specs.declared.stack.write.Wrote.{Wrote}
use Rattle.nested_writer.specs.declared.stack.write.Wrote.TheVariants as at_once
use Rattle.nested_writer.specs.Stack.{Stack}
use Rattle.nested_writer.specs.Calls.{with_frame, IsAtBottom, IsCrowded, IsWorn, NeedsPage, HasTopLeft}
use Rattle.nested_writer.specs.Kept.{SameFills, SamePages}
use Rattle.nested_writer.specs.Ends.{MayEndTop, MayNotEndTop, IsEnd}
use Rattle.nested_writer.specs.Next.{below_top, IsPushedOn, IsPlaced, IsReadyForPage, IsAllottedTo, IsSameFrame}
use Rattle.nested_writer.specs.Next.{IsRefusedTo, IsEndedTo}
use Rattle.nested_writer.specs.Allotted.{HasEvents, IsAllotted}
use Rattle.nested_writer.specs.Answered.{IsAllotAnswer}
use Rattle.nested_writer.specs.AtOnce.{FitsAtOnce, FitsAbove, with_left}
use Rattle.nested_writer.specs.IsStack.{IsStack, IsReachedStack}

-- `begin`: the frame for a record of this moment, of a payload of len bytes, is on top; or the first of the faults
-- that holds is answered, and nothing changes.
pub record Begins (moment len : ℕ) (old : Stack) (result : Result Unit WriteFault) (new : Stack) : Type 0 where
  pub too_deep : result ≡ Err TooDeep ↔ MAX_FRAMES ≤ length old.frames
  pub too_long : result ≡ Err TooLong ↔ ((length old.frames < MAX_FRAMES) × IsTooLong old.size len)
  pub late : result
      ≡ Err LateMoment
      ↔ ((length old.frames < MAX_FRAMES) × (IsTooLong old.size len → ⊥) × (MOMENT_LIMIT ≤ moment))
  pub begun : IsOk result
      ↔ ((length old.frames < MAX_FRAMES) × (IsTooLong old.size len → ⊥) × (moment < MOMENT_LIMIT))
  pub ok : OnOk result (new ≡ with_frame old (record { purpose = Record moment len; progress = Waiting None }))
  pub err : OnErr result (new ≡ old)
  pub stays : IsReachedStack old → IsReachedStack new
  pub pushed : OnOk result ((start : ℕ) (history : List HistoryEvent)
      → IsStack start history old
      → IsStack start (history ++ push moment len ∷ []) new)
  pub kept : SamePages old new
  pub top : OnOk result (IsPushedOn old new (Some len))

-- `allot`: the frame on top gets its place, or a page is needed; or it is refused, and leaves without a record if it
-- is for want of a page.
pub record Allots (old : Stack) (result : Result Allot WriteFault) (new : Stack) : Type 0 where
  pub crowded : result ≡ Err Crowded ↔ (NeedsPage old old.frames × IsCrowded old)
  pub worn : result ≡ Err Worn ↔ (NeedsPage old old.frames × (IsCrowded old → ⊥) × IsWorn old)
  pub no_frame : result ≡ Err NoFrame ↔ old.frames ≡ []
  pub not_reserved : result ≡ Err NotReserved ↔ HasTopLeft old.frames
  pub needs_page : result
      ≡ Ok allot.NeedsPage
      ↔ (NeedsPage old old.frames × (IsCrowded old → ⊥) × (IsWorn old → ⊥))
  pub after : IsAllotted old old.frames result new
  pub stays : IsReachedStack new
  pub answered : (start : ℕ) (history : List HistoryEvent)
      → IsStack start history old
      → IsAllotAnswer old history old.frames result
  pub kept : SameFills old new
  pub fits : (place : Place) → result ≡ Ok (allot.Fits place) → IsPlaced old new place
  pub page : result ≡ Ok allot.NeedsPage → IsReadyForPage old new
  pub next : IfOk result (λ allotted. IsAllottedTo old new allotted)
  pub same : OnOk result (IsSameFrame old new)
  pub refused : IfErr result (λ fault. IsRefusedTo old new fault)

-- `end`: the frame on top leaves; the bottom one stays.
pub record EndsTop (old : Stack) (result : Result Ended WriteFault) (new : Stack) : Type 0 where
  pub no_frame : result ≡ Err NoFrame ↔ old.frames ≡ []
  pub not_reserved : result ≡ Err NotReserved ↔ MayNotEndTop old.frames
  pub pending : result ≡ Ok Pending ↔ (MayEndTop old.frames × (1 < length old.frames))
  pub full : result ≡ Ok Full ↔ (MayEndTop old.frames × (length old.frames ≤ 1))
  pub stays : IsReachedStack new
  pub ok : OnOk result (IsEnd old old.frames new)
  pub err : OnErr result (new ≡ old)
  pub kept : SamePages old new
  pub below : result ≡ Ok Pending → new.frames ≡ below_top old.frames
  pub bottom : result ≡ Ok Full → IsAtBottom new.frames
  pub next : IfOk result (λ ended. IsEndedTo old new ended)

-- The record is written exactly if that is so, its moment raised to the last one's; else nothing changes.
pub record WritesIf (so : Type 0) (moment : ℕ) (payload : List ℕ) (old : Stack) (result : Wrote) (new : Stack)
    : Type 0 where
  pub wrote : result ≡ at_once.Record ↔ so
  pub records : result ≡ at_once.Record
      → records_of_page new.tail
      ≡ records_of_page old.tail ++ record { moment = max moment old.last_moment; bytes = padded payload } ∷ []
  pub stack : result ≡ at_once.Record
      → HasEvents old (push moment (length payload) ∷ reserve ∷ leave (Some payload) ∷ []) new
  pub stays : IsReachedStack new
  pub nothing : result ≡ at_once.Nothing → new ≡ old
  pub kept : SameFills old new

-- `write` and `write_alone`: if it fits at once.
abbrev pub WritesWhatFits : (moment : ℕ) → List ℕ → Stack → Wrote → Stack → Type 0
WritesWhatFits moment payload old result new =
    WritesIf (FitsAtOnce old moment (length payload)) moment payload old result new

-- `write_above`: if it fits above the frames on the stack.
abbrev pub WritesWhatFitsAbove : (moment : ℕ) → List ℕ → Stack → Wrote → Stack → Type 0
WritesWhatFitsAbove moment payload old result new =
    WritesIf (FitsAbove old moment (length payload)) moment payload old result new

-- The frame of a record of this moment, and of a payload of len bytes, is put on the empty stack, and has left.
pub record StandsAgain (moment len : ℕ) (old new : Stack) : Type 0 where
  pub left : new ≡ with_left old moment len
  pub stack : HasEvents old [] new
  pub stays : IsReachedStack old → IsReachedStack new
  pub kept : SamePages old new
  pub bottom : IsAtBottom new.frames
