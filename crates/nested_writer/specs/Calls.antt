-- What each call makes of a writer's stack, and when it is refused.
use Rattle.std.specs.Prelude.{◌≡◌, ◌≢◌, ℕ, ◌+◌, ◌-◌, ◌<◌, ◌≤◌, max, Bool, true, false, List, [], ◌∷◌, ◌++◌, length}
use Rattle.std.specs.Prelude.{replicate, Option, Some, None}
use Rattle.trace_model.specs.declared.limits.TheConstants.{LINK_FILLS}
use Rattle.trace_model.specs.Words.{encoded_len, encoding, slot_len}
use Rattle.record_words.specs.declared.put.Place.{Place}
use Rattle.page_image.specs.Contents.{Contents, is_blank}
use Rattle.nested_writer.specs.declared.frame.Purpose.{Purpose}
use Rattle.nested_writer.specs.declared.frame.Purpose.TheVariants.{Record, Close}
use Rattle.nested_writer.specs.declared.frame.Slot.{Slot}
use Rattle.nested_writer.specs.declared.frame.Progress.{Progress}
use Rattle.nested_writer.specs.declared.frame.Progress.TheVariants.{Waiting, Through, Reserved, Left}
use Rattle.nested_writer.specs.declared.frame.Frame.{Frame}
use Rattle.nested_writer.specs.Stack.{Stack, opened, tail_fill, next_number}

-- ---- states

-- one frame more, on top
abbrev pub with_frame : Stack → Frame → Stack
with_frame s f = record s { frames = f ∷ s.frames }

-- the frame on top has this progress, over these
abbrev pub with_progress : Stack → Frame → List Frame → Progress → Stack
with_progress s top below progress = record s { frames = record top { progress = progress } ∷ below }

-- the frame on top leaves: one with a frame below it is popped, the bottom one stays
abbrev pub frames_after_leave : Frame → List Frame → List Frame
frames_after_leave top [] = record top { progress = Left None } ∷ []
frames_after_leave top (next ∷ below) = next ∷ below

abbrev pub after_leave : Stack → Frame → List Frame → Stack
after_leave s top below = record s { frames = frames_after_leave top below }

-- the bottom frame, which has left, was asked to close the tail when this number of fills was begun
abbrev pub asked_frames : List Frame → Option ℕ → List Frame
asked_frames [] noted = []
asked_frames (bottom ∷ below) noted = record bottom { progress = Left noted } ∷ below

abbrev pub with_bottom : Stack → Option ℕ → Stack
with_bottom s noted = record s { frames = asked_frames s.frames noted }

-- a page more is the tail
abbrev pub with_tail : Stack → Contents → Stack
with_tail s page = record s { older = s.older ++ s.tail ∷ []; tail = page }

-- the frame on top
abbrev pub top_of : List Frame → Option Frame
top_of [] = None
top_of (top ∷ below) = Some top

-- ---- conditions

-- this frame is on top of these
abbrev pub IsTop : Stack → Frame → List Frame → Type 0
IsTop s top below = s.frames ≡ top ∷ below

-- it was ended or refused
abbrev pub HasLeft : Progress → Type 0
HasLeft (Waiting noted) = ⊥
HasLeft (Through noted) = ⊥
HasLeft (Reserved slot) = ⊥
HasLeft (Left noted) = Unit {0}

-- the frame on top was ended or refused
abbrev pub HasTopLeft : List Frame → Type 0
HasTopLeft [] = ⊥
HasTopLeft (top ∷ below) = HasLeft top.progress

-- it has reserved no record
abbrev pub HasNoSlot : Progress → Type 0
HasNoSlot (Waiting noted) = Unit {0}
HasNoSlot (Through noted) = Unit {0}
HasNoSlot (Reserved slot) = ⊥
HasNoSlot (Left noted) = Unit {0}

-- only the bottom frame is on the stack, ended or refused
abbrev pub IsAtBottom : List Frame → Type 0
IsAtBottom [] = ⊥
IsAtBottom (f ∷ []) = HasLeft f.progress
IsAtBottom (f ∷ next ∷ below) = ⊥

-- how many bytes the tail's data has once a record of this moment is put after the others
abbrev pub end_with : Stack → (moment len : ℕ) → ℕ
end_with s moment len =
    length s.tail.bytes + encoded_len len (max moment s.last_moment - s.last_moment) (is_blank s.tail.bytes)

-- No page was added since: the noted number of begun fills is still the number of them.
abbrev pub IsUnchanged : Stack → Option ℕ → Type 0
IsUnchanged s None = Unit {0}
IsUnchanged s (Some noted) = noted ≡ opened s

-- A page is needed: the record doesn't fit in the tail; or the tail holds a record, and no page was added since the
-- close frame's first try.
abbrev pub WantsPage : Stack → Purpose → Progress → Type 0
WantsPage s (Record moment len) (Waiting noted) = s.size < end_with s moment len
WantsPage s Close (Waiting noted) = (s.tail.bytes ≢ []) × IsUnchanged s noted
WantsPage s (Record moment len) (Through noted) = ⊥
WantsPage s Close (Through noted) = (s.tail.bytes ≢ []) × (noted ≡ opened s)
WantsPage s purpose (Reserved slot) = ⊥
WantsPage s purpose (Left noted) = ⊥

-- the frame on top needs a page
abbrev pub NeedsPage : Stack → List Frame → Type 0
NeedsPage s [] = ⊥
NeedsPage s (top ∷ below) = WantsPage s top.purpose top.progress

-- all pages of the ring have fills that aren't closed
abbrev pub IsCrowded : Stack → Type 0
IsCrowded s = opened s ≡ s.done + s.pages

-- the tail is the last fill that may be begun
abbrev pub IsWorn : Stack → Type 0
IsWorn s = LINK_FILLS ≤ opened s + s.pages

-- The frame found that it needs a page, and none was added since: a record frame and a close frame at their last allot,
-- one that has left when the tail was asked to be closed.
abbrev pub HasNoted : Stack → Progress → Type 0
HasNoted s (Waiting noted) = noted ≡ Some (opened s)
HasNoted s (Through noted) = ⊥
HasNoted s (Reserved slot) = ⊥
HasNoted s (Left noted) = noted ≡ Some (opened s)

-- the next fill is one that the frame on top needs
abbrev pub MayAddPage : Stack → List Frame → Type 0
MayAddPage s [] = ⊥
MayAddPage s (top ∷ below) = HasNoted s top.progress

-- the record has room in the tail
abbrev pub HasRecordRoom : Stack → (moment len : ℕ) → Type 0
HasRecordRoom s moment len = end_with s moment len ≤ s.size

-- The record of the frame on top is put after those of the tail, with zeros in its payload's place, at its moment or,
-- if that is later, at the last one. Frames below and pages before the tail stay. What the tail's header holds isn't
-- said here: `IsStack` ties it to the history.
pub record ReservesRecord (s : Stack) (top : Frame) (below : List Frame) (moment len : ℕ) (place : Place)
    (after : Stack)
    : Type 0 where
  pub bytes : after.tail.bytes
      ≡ s.tail.bytes
      ++ encoding (max moment s.last_moment - s.last_moment) (is_blank s.tail.bytes) (replicate (slot_len len) 0)
  pub place_end : place.start + place.len ≡ length after.tail.bytes
  pub place_len : place.len ≡ slot_len len
  pub others : after
      ≡ record s {
        tail = after.tail;
        last_moment = max moment s.last_moment;
        frames = record top {
          progress = Reserved record { number = next_number s; fill = tail_fill s; place = place };
        } ∷ below;
      }

-- the frame on top has reserved no record
abbrev pub LacksSlot : List Frame → Type 0
LacksSlot [] = ⊥
LacksSlot (top ∷ below) = HasNoSlot top.progress

-- this is the slot of the frame on top
abbrev pub IsTopSlot : List Frame → Slot → Type 0
IsTopSlot [] slot = ⊥
IsTopSlot (top ∷ below) slot = top.progress ≡ Reserved slot

-- the slot of the frame on top, if its record is reserved
abbrev pub slot_of : Progress → Option Slot
slot_of (Waiting noted) = None
slot_of (Through noted) = None
slot_of (Reserved slot) = Some slot
slot_of (Left noted) = None

abbrev pub top_slot : List Frame → Option Slot
top_slot [] = None
top_slot (top ∷ below) = slot_of top.progress

-- whether the frame on top is a close
abbrev pub is_close : Purpose → Bool
is_close (Record moment len) = false
is_close Close = true

abbrev pub tops_close : List Frame → Bool
tops_close [] = false
tops_close (top ∷ below) = is_close top.purpose
