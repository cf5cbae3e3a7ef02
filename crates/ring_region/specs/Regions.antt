-- A region: its header, and what is recovered of its slots.
use Rattle.std.specs.Prelude.{◌≡◌, ℕ, ◌+◌, max, nat_lt, true, if◌then◌else◌, List, [], ◌∷◌, ◌++◌, length, None, Some}
use Rattle.std.specs.List.{slice_get}
use Rattle.trace_model.specs.Parcel.{Parcel}
use Rattle.ring_region.specs.declared.headers.Header.{Header}
use Rattle.ring_region.specs.declared.faults.Damaged.{Damaged}
use Rattle.ring_region.specs.Headers.{header_in, slot_in, IsWhole}
use Rattle.ring_region.specs.Slots.{Slot, blank, intact, faulty, IsSlotOf}
use Rattle.ring_region.specs.Order.{Found, end_of, AreByFill, kept_behind, damaged_behind, damaged_from, recovered}

-- A page that ends below `taken` was passed: it was taken before the last one that was, or overwritten unread. Its slot
-- is as one that has nothing.
abbrev pub unpassed : (taken : ℕ) → Slot → Slot
unpassed taken blank = blank
unpassed taken (intact parcel) = if nat_lt (end_of parcel) taken then blank else intact parcel
unpassed taken (faulty cause) = faulty cause

-- The bytes of a slot of a region with this header are this one, if pages that were passed are left out.
pub record IsUnpassedSlotOf (header : Header) (bytes : List ℕ) (slot : Slot) : Type 0 where
  pub read : Slot
  pub read_is : IsSlotOf header.cpu.0 bytes read
  pub slot_is : slot ≡ unpassed header.taken.0 read

-- The first slots of a region with this header are these, if pages that were passed are left out.
abbrev pub AreSlots : Header → List ℕ → List Slot → Type 0
AreSlots header bytes slots = (number : ℕ) (slot : Slot)
    → slice_get slots number ≡ Some slot
    → IsUnpassedSlotOf header (slot_in header.size bytes number) slot

-- What a region holds: what its header states, its pages that weren't passed, as parcels by rising fill, and the slots
-- that are damaged.
pub record Recovered : Type 0 where
  pub header : Header
  pub parcels : List Parcel
  pub damaged : List Damaged

-- the slots that are damaged: those that aren't pages, in their order, and then those that can't be beside others, by
-- fill
abbrev pub damaged_in : (size : ℕ) → List Slot → List Found → List Damaged
damaged_in size slots found = damaged_from size 0 slots ++ damaged_behind size None found

-- In the slots after this header is what is held.
pub record IsHeld (bytes : List ℕ) (held : Recovered) : Type 0 where
  pub slots : List Slot
  pub count_is : length slots ≡ held.header.pages + 1
  pub slots_are : AreSlots held.header bytes slots
  pub found : List Found
  pub by_fill : AreByFill slots found
  pub damaged_are : held.damaged ≡ damaged_in held.header.size slots found
  pub parcels_are : held.parcels ≡ recovered held.header.taken.0 held.damaged (kept_behind None found)

-- The bytes are a region that holds this.
pub record IsRegion (bytes : List ℕ) (held : Recovered) : Type 0 where
  pub whole : IsWhole bytes
  pub header_is : held.header ≡ header_in bytes
  pub slots : IsHeld bytes held

-- ---- the end of the CPU's records

-- The region states that its ring ended: when the writer was freed, nothing was begun and not ended. No slot is
-- damaged.
pub record IsClean (held : Recovered) : Type 0 where
  pub ended : held.header.ended ≡ true
  pub undamaged : held.damaged ≡ []

-- the end of the last of these, or 0 if there is none
abbrev pub last_end : List Parcel → ℕ
last_end [] = 0
last_end (parcel ∷ []) = end_of parcel
last_end (parcel ∷ other ∷ parcels) = last_end (other ∷ parcels)

-- how many records the CPU has, if the region is clean
abbrev pub count_in : Recovered → ℕ
count_in held = max held.header.taken.0 (last_end held.parcels)
