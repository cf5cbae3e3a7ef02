-- From the parts of a parcel's bytes, as they are read, to its reading or its first fault.
use Rattle.std.proofs.Common.{◌≡◌, ◌≢◌, ℕ, ◌<◌, List, drop, refl, sym, ap, subst, arith}
use Rattle.trace_model.specs.Image.{Missed, DecodesImage}
use Rattle.trace_model.specs.Parcel.{Parcel}
use Rattle.trace_model.specs.ParcelBytes.{HasNumbers, HasImage}
use Rattle.trace_model.specs.declared.limits.TheConstants.{MAX_CPUS}
use Rattle.record_words.specs.declared.next.WordFault.TheVariants.{Cut, BadLength, TimeOverflow}
use Rattle.page_image.specs.declared.image.ImageFault.{ImageFault}
use Rattle.page_image.specs.declared.image.ImageFault.TheVariants.{TooShort, BadSize, BadCount, Word, NoMemory}
use Rattle.page_image.specs.declared.image.Outline.{Outline}
use Rattle.page_image.specs.Images.{missed_of, page_in, IsImageFault, IsOutlined}
use Rattle.page_image.specs.Contents.{Contents, records_of_page}
use Rattle.page_numbers.specs.declared.fault.ParcelFault.{ParcelFault}
use Rattle.page_numbers.specs.declared.fault.ParcelFault.TheVariants.{Image as ImageIs, NumberOverflow, MissedTooMany}
use Rattle.page_numbers.specs.declared.fault.ParcelFault.TheVariants.{MissedDiffers, BadCpu, NoMemory as MemoryIs}
use Rattle.page_numbers.specs.declared.numbers.Numbers.{Numbers}
use Rattle.page_numbers.specs.Parcels.{parcel_of_page}
use Rattle.page_numbers.specs.Written.{page_under, IsPageRead}
use Rattle.page_numbers.specs.Faults.{IsRefusedAs, fault_of_image, IsParcelFault}

-- a fault of the image is one of the parcel
pub image_refused : (bytes : List ℕ) (cpu fill first missed : ℕ) (image : List ℕ) (fault : ImageFault)
    → HasNumbers bytes cpu fill first missed image → cpu < MAX_CPUS → IsImageFault image fault → fault ≢ NoMemory
    → IsParcelFault bytes (fault_of_image fault)
image_refused bytes cpu fill first missed image TooShort h known is not =
    let long = h.long in
    absurd (omega (arith, is))
image_refused bytes cpu fill first missed image BadSize h known is not =
    record {
      cpu = cpu;
      fill = fill;
      first = first;
      missed = missed;
      image = image;
      numbers = h;
      cpu_known = known;
      fault = is;
    }
image_refused bytes cpu fill first missed image BadCount h known is not =
    record {
      cpu = cpu;
      fill = fill;
      first = first;
      missed = missed;
      image = image;
      numbers = h;
      cpu_known = known;
      fault = is;
    }
image_refused bytes cpu fill first missed image (Word (Cut at)) h known is not =
    record {
      cpu = cpu;
      fill = fill;
      first = first;
      missed = missed;
      image = image;
      numbers = h;
      cpu_known = known;
      fault = is;
    }
image_refused bytes cpu fill first missed image (Word (BadLength at)) h known is not =
    record {
      cpu = cpu;
      fill = fill;
      first = first;
      missed = missed;
      image = image;
      numbers = h;
      cpu_known = known;
      fault = is;
    }
image_refused bytes cpu fill first missed image (Word (TimeOverflow at)) h known is not =
    record {
      cpu = cpu;
      fill = fill;
      first = first;
      missed = missed;
      image = image;
      numbers = h;
      cpu_known = known;
      fault = is;
    }
image_refused bytes cpu fill first missed image NoMemory h known is not = absurd (not refl)

-- an image that was outlined is that of the parcel of its page, under its CPU and numbers
pub HasImage-outlined : (bytes : List ℕ) (cpu named : ℕ) (numbers : Numbers) (image : List ℕ) (outline : Outline)
    → image ≡ drop 32 bytes → HasNumbers bytes cpu numbers.fill numbers.first numbers.missed (drop 32 bytes)
    → named ≡ cpu → cpu < MAX_CPUS → IsOutlined image outline
    → HasImage bytes
    (parcel_of_page named (page_under (page_in image outline.time outline.size) numbers) numbers.missed)
    (missed_of outline.missed)
HasImage-outlined bytes cpu named numbers image outline image_is h named_is known is =
    let page : Contents = page_under (page_in image outline.time outline.size) numbers in
    subst (λ (k : ℕ). HasImage bytes (parcel_of_page k page numbers.missed) (missed_of outline.missed)) (sym named_is)
    (record {
      image = image;
      numbers =
          subst (λ (b : List ℕ). HasNumbers bytes cpu numbers.fill numbers.first numbers.missed b) (sym image_is) h;
      cpu_known = known;
      time = outline.time;
      size = outline.size;
      reads = is.reads;
    })

-- and its page is the one of that parcel
pub IsPageRead-outlined : (bytes : List ℕ) (numbers : Numbers) (image : List ℕ) (outline : Outline)
    → image ≡ drop 32 bytes → IsOutlined image outline
    → IsPageRead bytes (page_under (page_in image outline.time outline.size) numbers)
IsPageRead-outlined bytes numbers image outline image_is is =
    let page : Contents = page_in image outline.time outline.size in record {
      time = outline.time;
      size = outline.size;
      reported = missed_of outline.missed;
      reads =
          subst
          (λ (b : List ℕ).
          DecodesImage b outline.time outline.size (missed_of outline.missed) (records_of_page page)) image_is
          is.reads;
      page_is = ap (λ (b : List ℕ). page_under (page_in b outline.time outline.size) numbers) image_is;
    }

-- what is refused of the image is a fault of the bytes
pub refused-fault : (bytes : List ℕ) (parcel : Parcel) (reported : Missed) (fault : ParcelFault)
    → HasImage bytes parcel reported → IsRefusedAs parcel reported fault → IsParcelFault bytes fault
refused-fault bytes parcel reported (ImageIs image) h refused = absurd refused
refused-fault bytes parcel reported NumberOverflow h refused =
    record { parcel = parcel; reported = reported; image = h; past = refused.past }
refused-fault bytes parcel reported MissedTooMany h refused =
    record { parcel = parcel; reported = reported; image = h; numbers_fit = refused.numbers_fit; past = refused.past }
refused-fault bytes parcel reported MissedDiffers h refused =
    record { parcel = parcel; reported = reported; image = h; sound = refused.0; differs = refused.1 }
refused-fault bytes parcel reported BadCpu h refused = absurd refused
refused-fault bytes parcel reported MemoryIs h refused =
    (parcel, record { reported = reported; image = h; sound = refused.0; agrees = refused.1 })
