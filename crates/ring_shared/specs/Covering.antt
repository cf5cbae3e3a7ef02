-- Payloads that are covered: those in the slots of the frames below the one on top.
use Rattle.std.specs.Prelude.{◌≡◌}
use Rattle.nested_writer.specs.declared.frame.Slot.{Slot}
use Rattle.nested_writer.specs.Stack.{Stack}
use Rattle.nested_writer.specs.Next.{below_top}
use Rattle.ring_frames.specs.Answers.{bytes_in, HoldSlot}

-- Each slot that a frame of the old stack has reserved, one below the top has reserved in the new one, with the same
-- bytes.
abbrev pub CoversPayloads : Stack → Stack → Type 0
CoversPayloads old new = (slot : Slot)
    → HoldSlot old.frames slot
    → HoldSlot (below_top new.frames) slot × (bytes_in old slot ≡ bytes_in new slot)

-- Each slot that a frame below the old top has reserved stays reserved in the new stack, with the same bytes.
abbrev pub KeepsCovered : Stack → Stack → Type 0
KeepsCovered old new = (slot : Slot)
    → HoldSlot (below_top old.frames) slot
    → HoldSlot new.frames slot × (bytes_in old slot ≡ bytes_in new slot)
