-- What a call answers of a slot, from what it says of its bytes.
use Rattle.std.proofs.Common.{◌≡◌, ℕ, List, Result, Ok, Err, IfOk}
use Rattle.trace_model.specs.declared.numbers.NoMemory.{NoMemory}
use Rattle.ring_region.specs.declared.slots.Slot.{Slot as SlotAnswer}
use Rattle.ring_region.specs.declared.slots.Reading.{Reading}
use Rattle.ring_region.specs.Slots.{Slot, IsSlotOf, IsCommitted, committed_in}
use Rattle.ring_region.specs.Answers.{slot_seen, reading_seen}
use Rattle.ring_region.proofs.OnePage.{alike-committed, same_slot}
use Rattle.ring_region.proofs.Slotted.{one_slot}

-- what is answered is the slot that the bytes are
pub slot_reported : (cpu : ℕ) (bytes : List ℕ) (result : Result SlotAnswer NoMemory) (slot : Slot)
    → IfOk result (λ read. IsSlotOf cpu bytes (slot_seen read)) → IsSlotOf cpu bytes slot
    → IfOk result (λ read. slot_seen read ≡ slot)
slot_reported cpu bytes (Ok read) slot is also = one_slot cpu bytes (slot_seen read) slot is also
slot_reported cpu bytes (Err refused) slot is also = tt

-- what is read up to the commit is the slot
pub committed_reported : (cpu : ℕ) (bytes : List ℕ) (result : Result Reading NoMemory) → IsCommitted cpu bytes
    → IfOk result (λ read. IsSlotOf cpu (committed_in bytes) (reading_seen cpu read))
    → IfOk result (λ read. IsSlotOf cpu bytes (reading_seen cpu read))
committed_reported cpu bytes (Ok read) is reads =
    same_slot cpu (committed_in bytes) bytes (reading_seen cpu read) (alike-committed cpu bytes is) reads
committed_reported cpu bytes (Err refused) is reads = tt
