-- A page under its numbers.
use Rattle.std.specs.Prelude.{◌+◌, ◌^◌, ◌<◌, length}
use Rattle.page_image.specs.Contents.{Contents, IsPage, records_of_page}

-- What holds of each page that is read: its data reads, and its records' numbers, and the one after them, fit 64 bits.
pub record IsNumbered (page : Contents) : Type 0 where
  pub reads : IsPage page
  pub numbers_fit : page.first + length (records_of_page page) < 2 ^ 64
