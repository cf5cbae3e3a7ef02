-- A slot of a region: the numbers of a parcel, the header of a page's image, and the page's data. What is after its
-- commit says nothing.
use Rattle.std.specs.Prelude.{◌≡◌, ◌≢◌, ℕ, ◌+◌, ◌<◌, ◌≤◌, List, ◌++◌, length, take}
use Rattle.trace_model.specs.Faults.{Cause, cut, bad_length, time_overflow}
use Rattle.trace_model.specs.Image.{le64, bad_word}
use Rattle.trace_model.specs.Parcel.{Parcel}
use Rattle.trace_model.specs.ParcelBytes.{with_numbers, DecodesParcel, bad_image, number_overflow, FirstParcelFault}
use Rattle.record_words.specs.declared.next.WordFault.{WordFault}
use Rattle.record_words.specs.declared.next.WordFault.TheVariants.{Cut, BadLength, TimeOverflow}
use Rattle.page_image.specs.Contents.{Contents}
use Rattle.ring_region.specs.declared.limits.TheConstants.{HEAD, SLOT_CPU_AT, FILL_AT, FIRST_AT, MISSED_AT, COMMIT_AT}
use Rattle.ring_region.specs.declared.faults.SlotCause.{SlotCause}
use Rattle.ring_region.specs.declared.faults.SlotCause.TheVariants.{OtherCpu, Missed, BadCommit, Word, NumberOverflow}
use Rattle.ring_region.specs.declared.faults.SlotCause.TheVariants.{SameFill, Overlap}
use Rattle.ring_region.specs.Headers.{number_in}

-- A slot has nothing committed, or it is a page, as a parcel of which nothing is missing, or it is damaged.
pub data Slot : Type 0 where
  blank : Slot
  intact : (parcel : Parcel) → Slot
  faulty : (cause : SlotCause) → Slot

-- how many bytes of data are committed, if that is what the slot states
abbrev pub commit_in : List ℕ → ℕ
commit_in bytes = number_in bytes COMMIT_AT

-- the slot up to its commit
abbrev pub committed_in : List ℕ → List ℕ
committed_in bytes = take (HEAD + commit_in bytes) bytes

-- ---- what is looked at, one after the other

-- something is committed, and it is of this CPU
pub record IsOfCpu (cpu : ℕ) (bytes : List ℕ) : Type 0 where
  pub some : commit_in bytes ≢ 0
  pub cpu_is : number_in bytes SLOT_CPU_AT ≡ cpu

-- and it states no missed numbers
pub record IsUnmissed (cpu : ℕ) (bytes : List ℕ) : Type 0 where
  pub of_cpu : IsOfCpu cpu bytes
  pub none_missed : number_in bytes MISSED_AT ≡ 0

-- and what it says is committed is there
pub record IsCommitted (cpu : ℕ) (bytes : List ℕ) : Type 0 where
  pub unmissed : IsUnmissed cpu bytes
  pub there : HEAD + commit_in bytes ≤ length bytes

-- the slot up to its commit, as the bytes of a parcel, has this fault of a word as its first
abbrev pub HasBadWord : List ℕ → Cause → (at : ℕ) → Type 0
HasBadWord bytes cause at = FirstParcelFault (committed_in bytes) (bad_image (bad_word cause at))

-- The first fault of a slot in a region of this CPU, the causes being looked at in this order. The last two are
-- reported only of several slots together.
abbrev pub FirstSlotFault : (cpu : ℕ) → List ℕ → SlotCause → Type 0
FirstSlotFault cpu bytes OtherCpu = (commit_in bytes ≢ 0) × (number_in bytes SLOT_CPU_AT ≢ cpu)
FirstSlotFault cpu bytes Missed = IsOfCpu cpu bytes × (number_in bytes MISSED_AT ≢ 0)
FirstSlotFault cpu bytes BadCommit = IsUnmissed cpu bytes × (length bytes < HEAD + commit_in bytes)
FirstSlotFault cpu bytes (Word (Cut at)) = IsCommitted cpu bytes × HasBadWord bytes cut at
FirstSlotFault cpu bytes (Word (BadLength at)) = IsCommitted cpu bytes × HasBadWord bytes bad_length at
FirstSlotFault cpu bytes (Word (TimeOverflow at)) = IsCommitted cpu bytes × HasBadWord bytes time_overflow at
FirstSlotFault cpu bytes NumberOverflow =
    IsCommitted cpu bytes × FirstParcelFault (committed_in bytes) number_overflow
FirstSlotFault cpu bytes SameFill = ⊥
FirstSlotFault cpu bytes Overlap = ⊥

-- The bytes of a slot are this one: nothing is committed; or, up to its commit, they are the bytes of this parcel, of
-- which nothing is missing; or they have this first fault.
abbrev pub IsSlotOf : (cpu : ℕ) → List ℕ → Slot → Type 0
IsSlotOf cpu bytes blank = commit_in bytes ≡ 0
IsSlotOf cpu bytes (intact parcel) = IsCommitted cpu bytes × DecodesParcel (committed_in bytes) parcel
IsSlotOf cpu bytes (faulty cause) = FirstSlotFault cpu bytes cause

-- the offset of a word that can't be read, in the data
abbrev pub word_at : WordFault → ℕ
word_at (Cut at) = at
word_at (BadLength at) = at
word_at (TimeOverflow at) = at

-- the offset in a slot of what is wrong
abbrev pub cause_at : SlotCause → ℕ
cause_at OtherCpu = SLOT_CPU_AT
cause_at Missed = MISSED_AT
cause_at BadCommit = COMMIT_AT
cause_at (Word fault) = HEAD + word_at fault
cause_at NumberOverflow = FIRST_AT
cause_at SameFill = FILL_AT
cause_at Overlap = FIRST_AT

-- ---- what a writer leaves

-- the bytes of a page's slot up to its commit, if all its data is committed
abbrev pub slot_of_page : (cpu : ℕ) → Contents → List ℕ
slot_of_page cpu page =
    with_numbers cpu page.fill page.first 0 (le64 page.time ++ (le64 (length page.bytes) ++ page.bytes))
