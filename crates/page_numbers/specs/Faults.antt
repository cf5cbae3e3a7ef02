-- The faults of parcels, in the words of the definitions.
use Rattle.std.specs.Prelude.{ℕ, ◌+◌, ◌^◌, ◌<◌, ◌≤◌, List, length}
use Rattle.trace_model.specs.Faults.{cut, bad_length, time_overflow}
use Rattle.trace_model.specs.Image.{Missed, ImageCause, too_short, bad_size, bad_count, bad_word}
use Rattle.trace_model.specs.Parcel.{Parcel}
use Rattle.trace_model.specs.ParcelBytes.{IsParcel, AgreesWith, DecodesParcel, ParcelCause, bad_cpu, bad_image}
use Rattle.trace_model.specs.ParcelBytes.{number_overflow, missed_too_many, missed_differs, FirstParcelFault}
use Rattle.trace_model.specs.declared.limits.TheConstants.{MAX_CPUS}
use Rattle.record_words.specs.declared.next.WordFault.TheVariants.{Cut, BadLength, TimeOverflow}
use Rattle.page_image.specs.declared.image.ImageFault.{ImageFault}
use Rattle.page_image.specs.declared.image.ImageFault.TheVariants.{TooShort, BadSize, BadCount, Word}
use Rattle.page_image.specs.declared.image.ImageFault.TheVariants.{NoMemory as NoMemoryThere}
use Rattle.page_image.specs.Images.{word_fault}
use Rattle.page_numbers.specs.declared.fault.ParcelFault.{ParcelFault}
use Rattle.page_numbers.specs.declared.fault.ParcelFault.TheVariants.{Image, NumberOverflow, MissedTooMany}
use Rattle.page_numbers.specs.declared.fault.ParcelFault.TheVariants.{MissedDiffers, BadCpu, NoMemory}

-- ---- of a page

-- the CPU is known, and the number after the last record's doesn't fit 64 bits
pub record NumbersOverflow (parcel : Parcel) : Type 0 where
  pub cpu_known : parcel.cpu < MAX_CPUS
  pub past : 2 ^ 64 ≤ parcel.first + length parcel.records

-- it fits, and more numbers are missing before the first record's than there are
pub record MissesTooMany (parcel : Parcel) : Type 0 where
  pub cpu_known : parcel.cpu < MAX_CPUS
  pub numbers_fit : parcel.first + length parcel.records < 2 ^ 64
  pub past : parcel.first < parcel.missed

-- why what would be this parcel is refused: there is none such, or memory was refused for it
abbrev pub IsRefused : Parcel → ParcelFault → Type 0
IsRefused parcel (Image fault) = ⊥
IsRefused parcel NumberOverflow = NumbersOverflow parcel
IsRefused parcel MissedTooMany = MissesTooMany parcel
IsRefused parcel MissedDiffers = ⊥
IsRefused parcel BadCpu = MAX_CPUS ≤ parcel.cpu
IsRefused parcel NoMemory = IsParcel parcel

-- why what would be this parcel, read from an image that states this of missed records, is refused: the numbers before
-- the image state otherwise, or one of those; memory is refused only if nothing else is wrong
abbrev pub IsRefusedAs : Parcel → Missed → ParcelFault → Type 0
IsRefusedAs parcel reported (Image fault) = ⊥
IsRefusedAs parcel reported NumberOverflow = NumbersOverflow parcel
IsRefusedAs parcel reported MissedTooMany = MissesTooMany parcel
IsRefusedAs parcel reported MissedDiffers = IsParcel parcel × ¬ AgreesWith reported parcel.missed
IsRefusedAs parcel reported BadCpu = ⊥
IsRefusedAs parcel reported NoMemory = IsParcel parcel × AgreesWith reported parcel.missed

-- ---- of bytes

-- a fault of the image, and refused memory, which is none of it
abbrev pub fault_of_image : ImageFault → ParcelFault
fault_of_image TooShort = Image TooShort
fault_of_image BadSize = Image BadSize
fault_of_image BadCount = Image BadCount
fault_of_image (Word fault) = Image (Word fault)
fault_of_image NoMemoryThere = NoMemory

-- the faults by their causes
abbrev pub image_fault : ImageCause → ImageFault
image_fault too_short = TooShort
image_fault bad_size = BadSize
image_fault bad_count = BadCount
image_fault (bad_word cause at) = Word (word_fault cause at)

abbrev pub parcel_fault : ParcelCause → ParcelFault
parcel_fault bad_cpu = BadCpu
parcel_fault (bad_image cause) = Image (image_fault cause)
parcel_fault number_overflow = NumberOverflow
parcel_fault missed_too_many = MissedTooMany
parcel_fault missed_differs = MissedDiffers

-- the bytes read as some parcel
abbrev pub HasReading : List ℕ → Type 0
HasReading bytes = (parcel : Parcel) × DecodesParcel bytes parcel

-- What an answer without a parcel says of the bytes: their first fault, or that memory was refused for a parcel that
-- they read as.
abbrev pub IsParcelFault : List ℕ → ParcelFault → Type 0
IsParcelFault bytes (Image TooShort) = FirstParcelFault bytes (bad_image too_short)
IsParcelFault bytes (Image BadSize) = FirstParcelFault bytes (bad_image bad_size)
IsParcelFault bytes (Image BadCount) = FirstParcelFault bytes (bad_image bad_count)
IsParcelFault bytes (Image (Word (Cut at))) = FirstParcelFault bytes (bad_image (bad_word cut at))
IsParcelFault bytes (Image (Word (BadLength at))) = FirstParcelFault bytes (bad_image (bad_word bad_length at))
IsParcelFault bytes (Image (Word (TimeOverflow at))) = FirstParcelFault bytes (bad_image (bad_word time_overflow at))
IsParcelFault bytes (Image NoMemoryThere) = ⊥
IsParcelFault bytes NumberOverflow = FirstParcelFault bytes number_overflow
IsParcelFault bytes MissedTooMany = FirstParcelFault bytes missed_too_many
IsParcelFault bytes MissedDiffers = FirstParcelFault bytes missed_differs
IsParcelFault bytes BadCpu = FirstParcelFault bytes bad_cpu
IsParcelFault bytes NoMemory = HasReading bytes
