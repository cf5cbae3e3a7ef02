-- The frame on top, as the fields show it.
use Rattle.std.specs.Prelude.{◌≡◌, ◌≢◌, ◌≤◌, ℕ, Option, Some, None}
use Rattle.record_words.specs.declared.format.TheConstants.{SHORT_LIMIT}
use Rattle.nested_writer.specs.declared.frame.Frame.{Frame}
use Rattle.nested_writer.specs.declared.frame.Slot.{Slot}
use Rattle.nested_writer.specs.declared.frame.Purpose.TheVariants.{Record, Close}
use Rattle.nested_writer.specs.declared.frame.Progress.TheVariants.{Waiting, Reserved, Left}
use Rattle.nested_writer.specs.declared.frame.Pushed.{Pushed}
use Rattle.nested_writer.specs.declared.stack.top.Tag.{Tag}
use Rattle.nested_writer.specs.declared.stack.top.Tag.TheVariants.{Empty, Waits, Tries, Holds, HoldsOlder}
use Rattle.nested_writer.specs.declared.stack.top.Tag.TheVariants.{HoldsClose, Stays, Other}
use Rattle.nested_writer.specs.declared.stack.top.Top.TheInside.{Inside}
use Rattle.nested_writer.specs.Calls.{HasNoSlot}
use Rattle.nested_writer.specs.TopFrame.{TopFrame, whole, in_tail}

abbrev pub frame_by_tag : Tag → Pushed → Option ℕ → Slot → Frame → TopFrame
frame_by_tag Empty pushed noted slot other = whole None
frame_by_tag Waits pushed noted slot other =
    whole (Some record { purpose = Record pushed.moment pushed.len; progress = Waiting None })
frame_by_tag Tries pushed noted slot other =
    whole (Some record { purpose = Record pushed.moment pushed.len; progress = Waiting noted })
frame_by_tag Holds pushed noted slot other = in_tail pushed.moment pushed.len slot.number slot.place
frame_by_tag HoldsOlder pushed noted slot other =
    whole (Some record { purpose = Record pushed.moment pushed.len; progress = Reserved slot })
frame_by_tag HoldsClose pushed noted slot other = whole (Some record { purpose = Close; progress = Reserved slot })
frame_by_tag Stays pushed noted slot other =
    whole (Some record { purpose = Record pushed.moment pushed.len; progress = Left None })
frame_by_tag Other pushed noted slot other = whole (Some other)

abbrev pub frame_on_top : Inside → TopFrame
frame_on_top t = frame_by_tag t.tag t.pushed t.noted t.slot t.other

-- A frame that waits has a payload of the short form; and one that is kept whole has no slot, and is no record frame
-- that tried nothing yet.
pub record IsKeptForm (t : Inside) : Type 0 where
  pub some : t.tag ≡ Waits → 1 ≤ t.pushed.len
  pub short : t.tag ≡ Waits → t.pushed.len ≤ SHORT_LIMIT
  pub apart : t.tag ≡ Other
      → (moment len : ℕ)
      → t.other ≢ record { purpose = Record moment len; progress = Waiting None }
  pub no_slot : t.tag ≡ Other → HasNoSlot t.other.progress
