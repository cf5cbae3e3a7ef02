-- Parcels as bytes: four numbers, and the image of the page after them. All of it is this project's own, stated in
-- docs/formats/pages.md, "Parcel bytes".
use Rattle.std.specs.Prelude.{◌≡◌, ℕ, ◌+◌, ◌^◌, ◌<◌, ◌≤◌, List, ◌++◌, length}
use Rattle.trace_model.specs.Image.{le64, Missed, none, unknown, counted, DecodesImage, image_of, ImageCause, too_short}
use Rattle.trace_model.specs.Image.{bad_size, bad_count, bad_word, FirstImageFault}
use Rattle.trace_model.specs.Parcel.{Parcel}
use Rattle.trace_model.specs.declared.limits.TheConstants.{MAX_CPUS}

-- What holds of each parcel: there is such a CPU, the number after its last record's is below 2^64, and it misses at
-- most as many numbers as there are before its first one.
pub record IsParcel (parcel : Parcel) : Type 0 where
  pub cpu_known : parcel.cpu < MAX_CPUS
  pub numbers_fit : parcel.first + length parcel.records < 2 ^ 64
  pub missed_fit : parcel.missed ≤ parcel.first

-- four numbers, and the bytes after them
abbrev pub with_numbers : ℕ → ℕ → ℕ → ℕ → List ℕ → List ℕ
with_numbers cpu fill first missed image = le64 cpu ++ (le64 fill ++ (le64 first ++ (le64 missed ++ image)))

-- The bytes of this parcel that are written where its page has this time, data and size: its numbers, and the
-- page's image, with the parcel's number of missed records.
abbrev pub bytes_of_parcel : Parcel → ℕ → List ℕ → ℕ → List ℕ
bytes_of_parcel parcel time contents size =
    with_numbers parcel.cpu parcel.fill parcel.first parcel.missed (image_of time contents parcel.missed size)

-- The bytes begin with these four numbers, and what follows them is long enough for an image's header.
pub record HasNumbers (bytes : List ℕ) (cpu fill first missed : ℕ) (image : List ℕ) : Type 0 where
  pub whole : bytes ≡ with_numbers cpu fill first missed image
  pub cpu_fits : cpu < 2 ^ 64
  pub fill_fits : fill < 2 ^ 64
  pub first_fits : first < 2 ^ 64
  pub missed_fits : missed < 2 ^ 64
  pub long : 16 ≤ length image

-- What an image states of missed records agrees with this number of them.
abbrev pub AgreesWith : Missed → ℕ → Type 0
AgreesWith none missed = missed ≡ 0
AgreesWith unknown missed = 0 < missed
AgreesWith (counted number) missed = (0 < missed) × (number ≡ missed)

-- The bytes have the numbers of this parcel, its CPU is one, and the image after them reads as its records and
-- states this of missed records.
pub record HasImage (bytes : List ℕ) (parcel : Parcel) (reported : Missed) : Type 0 where
  pub image : List ℕ
  pub numbers : HasNumbers bytes parcel.cpu parcel.fill parcel.first parcel.missed image
  pub cpu_known : parcel.cpu < MAX_CPUS
  pub time : ℕ
  pub size : ℕ
  pub reads : DecodesImage image time size reported parcel.records

-- The bytes read as this parcel.
pub record DecodesParcel (bytes : List ℕ) (parcel : Parcel) : Type 0 where
  pub reported : Missed
  pub image : HasImage bytes parcel reported
  pub sound : IsParcel parcel
  pub agrees : AgreesWith reported parcel.missed

-- ---- what is wrong with a parcel's bytes

-- bad_cpu: there is no such CPU. bad_image: the image has this fault, or the bytes are too short for one.
-- number_overflow: the number after the last record's is above 2^64 - 1. missed_too_many: more numbers are
-- missing than are before the first one. missed_differs: the image states otherwise of missed records than the numbers.
pub data ParcelCause : Type 0 where
  bad_cpu : ParcelCause
  bad_image : (cause : ImageCause) → ParcelCause
  number_overflow : ParcelCause
  missed_too_many : ParcelCause
  missed_differs : ParcelCause

-- the four numbers are there, and there is no such CPU
pub record HasBadCpu (bytes : List ℕ) : Type 0 where
  pub cpu : ℕ
  pub fill : ℕ
  pub first : ℕ
  pub missed : ℕ
  pub image : List ℕ
  pub numbers : HasNumbers bytes cpu fill first missed image
  pub unknown_cpu : MAX_CPUS ≤ cpu

-- the four numbers are there, the CPU is one, and the image has this first fault
pub record HasBadImage (bytes : List ℕ) (cause : ImageCause) : Type 0 where
  pub cpu : ℕ
  pub fill : ℕ
  pub first : ℕ
  pub missed : ℕ
  pub image : List ℕ
  pub numbers : HasNumbers bytes cpu fill first missed image
  pub cpu_known : cpu < MAX_CPUS
  pub fault : FirstImageFault image cause

-- the image is read, and the number after the last record's doesn't fit 64 bits
pub record HasOverflow (bytes : List ℕ) : Type 0 where
  pub parcel : Parcel
  pub reported : Missed
  pub image : HasImage bytes parcel reported
  pub past : 2 ^ 64 ≤ parcel.first + length parcel.records

-- it fits, and more numbers are missing before the first record's than there are
pub record HasTooManyMissed (bytes : List ℕ) : Type 0 where
  pub parcel : Parcel
  pub reported : Missed
  pub image : HasImage bytes parcel reported
  pub numbers_fit : parcel.first + length parcel.records < 2 ^ 64
  pub past : parcel.first < parcel.missed

-- all is well, but the image states otherwise of what is missing
pub record HasOtherMissed (bytes : List ℕ) : Type 0 where
  pub parcel : Parcel
  pub reported : Missed
  pub image : HasImage bytes parcel reported
  pub sound : IsParcel parcel
  pub differs : ¬ AgreesWith reported parcel.missed

-- The first fault of a parcel's bytes: that there are fewer than 48 of them, and then the causes in this order.
abbrev pub FirstParcelFault : List ℕ → ParcelCause → Type 0
FirstParcelFault bytes bad_cpu = HasBadCpu bytes
FirstParcelFault bytes (bad_image too_short) = length bytes < 48
FirstParcelFault bytes (bad_image bad_size) = HasBadImage bytes bad_size
FirstParcelFault bytes (bad_image bad_count) = HasBadImage bytes bad_count
FirstParcelFault bytes (bad_image (bad_word cause at)) = HasBadImage bytes (bad_word cause at)
FirstParcelFault bytes number_overflow = HasOverflow bytes
FirstParcelFault bytes missed_too_many = HasTooManyMissed bytes
FirstParcelFault bytes missed_differs = HasOtherMissed bytes
