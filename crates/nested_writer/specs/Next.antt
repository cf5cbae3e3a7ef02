-- What a caller of a writer's stack may do next.
use Rattle.std.specs.Prelude.{◌≡◌, ℕ, ◌+◌, ◌<◌, ◌⊎◌, List, [], ◌∷◌, length, Option, Some, None}
use Rattle.trace_model.specs.declared.limits.TheConstants.{LINK_FILLS}
use Rattle.trace_model.specs.Words.{slot_len}
use Rattle.record_words.specs.declared.put.Place.{Place}
use Rattle.nested_writer.specs.declared.frame.Purpose.{Purpose}
use Rattle.nested_writer.specs.declared.frame.Purpose.TheVariants.{Record, Close}
use Rattle.nested_writer.specs.declared.frame.Progress.{Progress}
use Rattle.nested_writer.specs.declared.frame.Progress.TheVariants.{Waiting, Through, Reserved, Left}
use Rattle.nested_writer.specs.declared.frame.Frame.{Frame}
use Rattle.nested_writer.specs.declared.fault.WriteFault.{WriteFault}
use Rattle.nested_writer.specs.declared.fault.WriteFault.TheVariants.{TooDeep, TooLong, LateMoment, Crowded, Worn}
use Rattle.nested_writer.specs.declared.fault.WriteFault.TheVariants.{NoFrame, NotReserved}
use Rattle.nested_writer.specs.declared.stack.allot.Allot.{Allot}
use Rattle.nested_writer.specs.declared.stack.allot.Allot.TheVariants.{Fits, NeedsPage}
use Rattle.nested_writer.specs.declared.stack.leave.Ended.{Ended}
use Rattle.nested_writer.specs.declared.stack.leave.Ended.TheVariants.{Pending, Full}
use Rattle.nested_writer.specs.Stack.{Stack, opened}
use Rattle.nested_writer.specs.Calls.{MayAddPage, IsAtBottom}
use Rattle.nested_writer.specs.Ends.{MayEndTop}

-- the length of the payload that a frame was pushed for; a close frame has none
abbrev pub len_of : Purpose → Option ℕ
len_of (Record moment len) = Some len
len_of Close = None

abbrev pub pushed_len : List Frame → Option ℕ
pushed_len [] = None
pushed_len (top ∷ below) = len_of top.purpose

-- where the payload of the frame on top is, if its record is reserved
abbrev pub place_of : Progress → Option Place
place_of (Waiting noted) = None
place_of (Through noted) = None
place_of (Reserved slot) = Some slot.place
place_of (Left noted) = None

abbrev pub top_place : List Frame → Option Place
top_place [] = None
top_place (top ∷ below) = place_of top.progress

-- the frames below the one on top
abbrev pub below_top : List Frame → List Frame
below_top [] = []
below_top (top ∷ below) = below

-- a frame was pushed, for a payload of this length, or to close a page
pub record IsPushedOn (old new : Stack) (len : Option ℕ) : Type 0 where
  pub len_is : pushed_len new.frames ≡ len
  pub below : below_top new.frames ≡ old.frames

-- The frame on top is the one of before, over the same frames.
pub record IsSameFrame (old new : Stack) : Type 0 where
  pub len_is : pushed_len new.frames ≡ pushed_len old.frames
  pub below : below_top new.frames ≡ below_top old.frames

-- The frame on top has this place, or is a close frame that needs no page, and may be ended: the place is that of the
-- payload's slot, whose length is the padded one.
pub record IsPlaced (old new : Stack) (place : Place) : Type 0 where
  pub may_end : MayEndTop new.frames
  pub len : (len : ℕ) → pushed_len old.frames ≡ Some len → place.len ≡ slot_len len
  pub here : (len : ℕ) → pushed_len old.frames ≡ Some len → top_place new.frames ≡ Some place

-- A page may be added for the frame on top.
pub record IsReadyForPage (old new : Stack) : Type 0 where
  pub room : length new.older + 1 < new.pages
  pub fills : opened new + new.pages < LINK_FILLS
  pub needs : MayAddPage new new.frames

-- what allot answers
abbrev pub IsAllottedTo : Stack → Stack → Allot → Type 0
IsAllottedTo old new (Fits place) = IsPlaced old new place
IsAllottedTo old new NeedsPage = IsReadyForPage old new

-- The frame below the one that was ended is on top; or the bottom one stays, which has left.
abbrev pub IsEndedTo : Stack → Stack → Ended → Type 0
IsEndedTo old new Pending = new.frames ≡ below_top old.frames
IsEndedTo old new Full = IsAtBottom new.frames

-- The frame on top has left: the one below it is on top; or it was the bottom one, which stays.
abbrev pub HasLeftTop : Stack → Stack → Type 0
HasLeftTop old new =
    ((below_top old.frames ≡ []) × IsAtBottom new.frames) ⊎ (new.frames ≡ below_top old.frames)

-- a frame that needs a page which it can't have leaves; else nothing changes
abbrev pub IsRefusedTo : Stack → Stack → WriteFault → Type 0
IsRefusedTo old new TooDeep = new ≡ old
IsRefusedTo old new TooLong = new ≡ old
IsRefusedTo old new LateMoment = new ≡ old
IsRefusedTo old new Crowded = HasLeftTop old new
IsRefusedTo old new Worn = HasLeftTop old new
IsRefusedTo old new NoFrame = new ≡ old
IsRefusedTo old new NotReserved = new ≡ old
