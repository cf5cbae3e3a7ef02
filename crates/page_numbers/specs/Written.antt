-- The bytes that a parcel is written as, and the page that bytes are read as.
use Rattle.std.specs.Prelude.{◌≡◌, ℕ, ◌^◌, ◌<◌, ◌≤◌, List, length, drop}
use Rattle.trace_model.specs.Words.{Decodes}
use Rattle.trace_model.specs.Image.{Missed, DecodesImage, image_of}
use Rattle.trace_model.specs.ParcelBytes.{bytes_of_parcel, with_numbers}
use Rattle.trace_model.specs.declared.limits.TheConstants.{MAX_SIZE}
use Rattle.page_image.specs.Contents.{Contents, records_of_page}
use Rattle.page_image.specs.Images.{page_in}
use Rattle.page_numbers.specs.declared.numbers.Numbers.{Numbers}
use Rattle.page_numbers.specs.declared.numbers.TheConstants.{NUMBERS}
use Rattle.page_numbers.specs.Parcels.{ParcelValue, as_parcel}

-- The bytes of this parcel: its numbers, and the image of its page, of the page's time, data and size.
pub record IsWrittenAs (parcel : ParcelValue) (bytes : List ℕ) : Type 0 where
  pub bytes_is :
      bytes ≡ bytes_of_parcel (as_parcel parcel) parcel.page.time parcel.page.bytes parcel.page.size
  pub in_time : parcel.page.time < 2 ^ 64
  pub fits : length parcel.page.bytes ≤ parcel.page.size
  pub limit : parcel.page.size ≤ MAX_SIZE
  pub reads : Decodes parcel.page.bytes parcel.page.time (records_of_page parcel.page)

-- The page is the one in the image after the numbers, of the image's time, data and size.
pub record IsPageRead (bytes : List ℕ) (page : Contents) : Type 0 where
  pub time : ℕ
  pub size : ℕ
  pub reported : Missed
  pub reads : DecodesImage (drop NUMBERS bytes) time size reported (records_of_page page)
  pub page_is : page ≡ record (page_in (drop NUMBERS bytes) time size) { first = page.first; fill = page.fill }

-- a page that was read under the numbers before it
abbrev pub page_under : Contents → Numbers → Contents
page_under page numbers = record page { first = numbers.first; fill = numbers.fill }

-- the bytes of this page under these numbers: the numbers, and the page's image
abbrev pub bytes_of_page : ℕ → Contents → ℕ → List ℕ
bytes_of_page cpu page missed =
    with_numbers cpu page.fill page.first missed (image_of page.time page.bytes missed page.size)
