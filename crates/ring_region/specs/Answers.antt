-- What the calls answer, in the words of the definitions.
use Rattle.std.specs.Prelude.{◌≡◌, ℕ, ◌+◌, ◌<◌, ◌≤◌, ⊤, List, [], ◌∷◌, ◌++◌, length, map, Option, Some, None, Result}
use Rattle.std.specs.Prelude.{Ok, IsErr}
use Rattle.std.specs.List.{slice_get, insert}
use Rattle.trace_model.specs.Parcel.{Parcel}
use Rattle.trace_model.specs.declared.numbers.NoMemory.{NoMemory}
use Rattle.page_image.specs.Contents.{Contents}
use Rattle.page_image.specs.declared.image.ImageFault.{ImageFault}
use Rattle.page_image.specs.declared.image.ImageFault.TheVariants.{TooShort, BadSize, BadCount, Word as ImageWord}
use Rattle.page_image.specs.declared.image.ImageFault.TheVariants.{NoMemory as ImageMemory}
use Rattle.page_numbers.specs.Parcels.{parcel_of_page, as_parcel, as_parcels}
use Rattle.parcel_streams.specs.Pieces.{Packed, mark_piece}
use Rattle.parcel_streams.specs.declared.piece.Mark.TheVariants.{End}
use Rattle.parcel_streams.specs.Answers.{piece_of_parcel}
use Rattle.ring_region.specs.declared.headers.Header.{Header}
use Rattle.ring_region.specs.declared.limits.TheConstants.{HEAD}
use Rattle.ring_region.specs.declared.faults.SlotFault.{SlotFault}
use Rattle.ring_region.specs.declared.faults.SlotCause.TheVariants.{Word as WordCause}
use Rattle.ring_region.specs.declared.slots.Slot.{Slot as SlotAnswer}
use Rattle.ring_region.specs.declared.slots.Slot.TheVariants.{Blank, Page, Damaged}
use Rattle.ring_region.specs.declared.slots.Reading.{Reading}
use Rattle.ring_region.specs.declared.slots.Reading.TheVariants.{Blank as BlankRead, Page as PageRead}
use Rattle.ring_region.specs.declared.slots.Reading.TheVariants.{Damaged as DamagedRead}
use Rattle.ring_region.specs.declared.found.Found.{Found as FoundAnswer}
use Rattle.ring_region.specs.declared.scans.Scan.{Scan}
use Rattle.ring_region.specs.declared.regions.Region.{Region}
use Rattle.ring_region.specs.Slots.{Slot, blank, intact, faulty, cause_at, word_at}
use Rattle.ring_region.specs.Order.{Found, AreByFill, damaged_from}
use Rattle.ring_region.specs.Regions.{Recovered, IsUnpassedSlotOf, AreSlots}

-- ---- one slot

-- the model's slot
abbrev pub slot_seen : SlotAnswer → Slot
slot_seen Blank = blank
slot_seen (Page parcel) = intact (as_parcel parcel)
slot_seen (Damaged fault) = faulty fault.cause

-- the page as a parcel of this CPU of which nothing is missing
abbrev pub unmissed : (cpu : ℕ) → Contents → Parcel
unmissed cpu page = parcel_of_page cpu page 0

abbrev pub reading_seen : (cpu : ℕ) → Reading → Slot
reading_seen cpu BlankRead = blank
reading_seen cpu (PageRead page) = intact (unmissed cpu page)
reading_seen cpu (DamagedRead fault) = faulty fault.cause

-- what is wrong is where it is said to be
abbrev pub IsLocated : SlotFault → Type 0
IsLocated fault = fault.at ≡ cause_at fault.cause

abbrev pub IsLocatedIn : SlotAnswer → Type 0
IsLocatedIn Blank = ⊤
IsLocatedIn (Page parcel) = ⊤
IsLocatedIn (Damaged fault) = IsLocated fault

-- and within the slot
abbrev pub IsWithin : List ℕ → Reading → Type 0
IsWithin bytes BlankRead = ⊤
IsWithin bytes (PageRead page) = ⊤
IsWithin bytes (DamagedRead fault) = IsLocated fault × (fault.at < length bytes)

-- the offset in the data of what is wrong with an image, if it is a word
abbrev pub offset_of : ImageFault → ℕ
offset_of (ImageWord fault) = word_at fault
offset_of TooShort = 0
offset_of BadSize = 0
offset_of BadCount = 0
offset_of ImageMemory = 0

-- what a fault of the image says of a slot whose head was looked at
abbrev pub IsTold : ImageFault → Result Reading NoMemory → Type 0
IsTold (ImageWord fault) result =
    result ≡ Ok (DamagedRead record { at = HEAD + word_at fault; cause = WordCause fault })
IsTold TooShort result = IsErr result
IsTold BadSize result = IsErr result
IsTold BadCount result = IsErr result
IsTold ImageMemory result = IsErr result

-- ---- several slots

abbrev pub found_seen : (cpu : ℕ) → FoundAnswer → Found
found_seen cpu found = record { slot = found.slot; parcel = unmissed cpu found.page }

-- This was read of the first slots of a region with this header, which are these.
pub record IsScanned (header : Header) (slots : List Slot) (scan : Scan) : Type 0 where
  pub by_fill : AreByFill slots (map (found_seen header.cpu.0) scan.pages.items)
  pub damaged_are : scan.damaged.items ≡ damaged_from header.size 0 slots

-- This was read of all slots of a region with this header.
pub record AreScanned (header : Header) (bytes : List ℕ) (scan : Scan) : Type 0 where
  pub slots : List Slot
  pub count_is : length slots ≡ header.pages + 1
  pub slots_are : AreSlots header bytes slots
  pub scanned : IsScanned header slots scan

-- One slot more, with these bytes, was read after these.
pub record AddsSlot (header : Header) (bytes : List ℕ) (slots : List Slot) (scan : Scan) : Type 0 where
  pub slot : Slot
  pub slot_is : IsUnpassedSlotOf header bytes slot
  pub scanned : IsScanned header (slots ++ slot ∷ []) scan

-- The page was put among those by fill, after all of no higher fill.
pub record PutsByFill (found : FoundAnswer) (old new : List FoundAnswer) : Type 0 where
  pub at : ℕ
  pub within : at ≤ length old
  pub new_is : new ≡ insert old at found
  pub no_higher : (k : ℕ) (page : FoundAnswer) → k < at → slice_get old k ≡ Some page → page.page.fill ≤ found.page.fill
  pub higher : (page : FoundAnswer) → slice_get old at ≡ Some page → found.page.fill < page.page.fill

-- ---- a region

abbrev pub region_seen : Region → Recovered
region_seen region = record {
  header = region.header;
  parcels = as_parcels region.parcels.items;
  damaged = region.damaged.items;
}

-- a mark of how many records the CPU has, if that is known
abbrev pub end_pieces : Header → Option ℕ → List Packed
end_pieces header None = []
end_pieces header (Some count) = mark_piece header.stream.0 header.cpu.0 (End count) ∷ []

-- the region as pieces of its stream
abbrev pub pieces_of : Region → Option ℕ → List Packed
pieces_of region count =
    map (piece_of_parcel region.header.stream.0) region.parcels.items ++ end_pieces region.header count
