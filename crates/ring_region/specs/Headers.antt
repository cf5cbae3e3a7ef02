-- The header of a region, and where its slots are. All of it is this project's own, stated in docs/formats/pages.md,
-- "Regions".
use Rattle.std.specs.Prelude.{◌≡◌, ◌≢◌, ℕ, ◌+◌, ◌-◌, ◌*◌, ◌/◌, ◌%◌, ◌<◌, ◌≤◌, ◌⊎◌, ◌==◌, List, [], ◌∷◌, length, take}
use Rattle.std.specs.Prelude.{drop, Option, Some, None}
use Rattle.trace_model.specs.Image.{from_le64}
use Rattle.trace_model.specs.declared.limits.TheConstants.{MAX_CPUS, MIN_PAGES, MAX_PAGES, MIN_SIZE, MAX_SIZE}
use Rattle.ring_region.specs.declared.limits.TheConstants.{START, HEAD, ALIGN, VERSION_AT, PAGES_AT, SIZE_AT}
use Rattle.ring_region.specs.declared.limits.TheConstants.{CPU_AT, STREAM_AT, TAKEN_AT, ENDED_AT}
use Rattle.ring_region.specs.declared.headers.Header.{Header}
use Rattle.ring_region.specs.declared.faults.RegionFault.{RegionFault}
use Rattle.ring_region.specs.declared.faults.RegionFault.TheVariants.{TooShort, NotARegion, BadVersion, BadPages}
use Rattle.ring_region.specs.declared.faults.RegionFault.TheVariants.{BadSize, BadCpu, BadEnd, NoMemory}

-- ---- where the slots are

-- how many bytes a slot takes: 48, and the data of a page, up to the next multiple of 64
abbrev pub stride_of : (size : ℕ) → ℕ
stride_of size = (HEAD + size + (ALIGN - 1)) / ALIGN * ALIGN

-- where the slot of this number begins
abbrev pub slot_at : (size number : ℕ) → ℕ
slot_at size number = START + stride_of size * number

-- how many bytes the region of a ring of `pages` pages has: there is a slot for each of them, and one for the reader's
abbrev pub region_len : (pages size : ℕ) → ℕ
region_len pages size = slot_at size (pages + 1)

-- the bytes of the slot of this number
abbrev pub slot_in : (size : ℕ) → List ℕ → (number : ℕ) → List ℕ
slot_in size bytes number = take (HEAD + size) (drop (slot_at size number) bytes)

-- ---- what the header states

-- the number in the eight bytes at this offset
abbrev pub number_in : List ℕ → (at : ℕ) → ℕ
number_in bytes at = from_le64 (drop at bytes)

-- the letters `tracring`
abbrev pub magic : List ℕ
magic = 116 ∷ 114 ∷ 97 ∷ 99 ∷ 114 ∷ 105 ∷ 110 ∷ 103 ∷ []

abbrev pub header_in : List ℕ → Header
header_in bytes = record {
  pages = number_in bytes PAGES_AT;
  size = number_in bytes SIZE_AT;
  cpu = record { 0 = number_in bytes CPU_AT };
  stream = record { 0 = number_in bytes STREAM_AT };
  taken = record { 0 = number_in bytes TAKEN_AT };
  ended = number_in bytes ENDED_AT == 1;
}

-- ---- what is looked at, one after the other

-- a header is there, and it begins with the letters
pub record IsMarked (bytes : List ℕ) : Type 0 where
  pub long : START ≤ length bytes
  pub magic_is : take 8 bytes ≡ magic

-- and it is of the version that is known
pub record HasVersion (bytes : List ℕ) : Type 0 where
  pub marked : IsMarked bytes
  pub version_is : number_in bytes VERSION_AT ≡ 1

-- and it states as many pages as a ring may have
pub record HasPages (bytes : List ℕ) : Type 0 where
  pub version : HasVersion bytes
  pub least : MIN_PAGES ≤ number_in bytes PAGES_AT
  pub most : number_in bytes PAGES_AT ≤ MAX_PAGES

-- and a size that they may have
pub record HasSize (bytes : List ℕ) : Type 0 where
  pub pages : HasPages bytes
  pub least : MIN_SIZE ≤ number_in bytes SIZE_AT
  pub most : number_in bytes SIZE_AT ≤ MAX_SIZE
  pub whole : number_in bytes SIZE_AT % 4 ≡ 0

-- and a CPU
pub record HasCpu (bytes : List ℕ) : Type 0 where
  pub size : HasSize bytes
  pub known : number_in bytes CPU_AT < MAX_CPUS

-- and whether the ring ended
pub record HasEnd (bytes : List ℕ) : Type 0 where
  pub cpu : HasCpu bytes
  pub one_or_none : number_in bytes ENDED_AT ≤ 1

-- And all its slots are there. The bytes are a region.
pub record IsWhole (bytes : List ℕ) : Type 0 where
  pub stated : HasEnd bytes
  pub there : region_len (number_in bytes PAGES_AT) (number_in bytes SIZE_AT) ≤ length bytes

-- The first fault of a region, what is wrong being looked for in this order, but for the slots, which are looked for
-- last. Memory is refused only if there is no fault.
abbrev pub IsRegionFault : List ℕ → RegionFault → Type 0
IsRegionFault bytes TooShort =
    (length bytes < START)
    ⊎ (HasEnd bytes × length bytes < region_len (number_in bytes PAGES_AT) (number_in bytes SIZE_AT))
IsRegionFault bytes NotARegion = (START ≤ length bytes) × (take 8 bytes ≢ magic)
IsRegionFault bytes BadVersion = IsMarked bytes × (number_in bytes VERSION_AT ≢ 1)
IsRegionFault bytes BadPages =
    HasVersion bytes × ((number_in bytes PAGES_AT < MIN_PAGES) ⊎ (MAX_PAGES < number_in bytes PAGES_AT))
IsRegionFault bytes BadSize =
    HasPages bytes
    × ((number_in bytes SIZE_AT < MIN_SIZE)
    ⊎ ((MAX_SIZE < number_in bytes SIZE_AT) ⊎ (number_in bytes SIZE_AT % 4 ≢ 0)))
IsRegionFault bytes BadCpu = HasSize bytes × (MAX_CPUS ≤ number_in bytes CPU_AT)
IsRegionFault bytes BadEnd = HasCpu bytes × (1 < number_in bytes ENDED_AT)
IsRegionFault bytes NoMemory = IsWhole bytes

-- the offset of what is wrong; none, if something isn't there
abbrev pub fault_at : RegionFault → Option ℕ
fault_at TooShort = None
fault_at NotARegion = Some 0
fault_at BadVersion = Some VERSION_AT
fault_at BadPages = Some PAGES_AT
fault_at BadSize = Some SIZE_AT
fault_at BadCpu = Some CPU_AT
fault_at BadEnd = Some ENDED_AT
fault_at NoMemory = None
