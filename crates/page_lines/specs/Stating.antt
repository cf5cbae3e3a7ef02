-- What pages state of their losses, and what is made of one of unknown number.
use Rattle.std.specs.Prelude.{◌≡◌, ◌+◌, List}
use Rattle.page_image.specs.Images.{missed_of}
use Rattle.page_image.specs.declared.image.Missed.{Missed}
use Rattle.capture.specs.Pages.{Page, told}
use Rattle.capture.specs.files.Losses.{counted_losses, unknown_losses}
use Rattle.page_lines.specs.declared.stated.Stated.{Stated}

-- these pages more state their losses
pub record StatesMore (old : Stated) (pages : List Page) (new : Stated) : Type 0 where
  pub unknown_is : new.unknown ≡ old.unknown + unknown_losses pages
  pub counted_is : new.counted ≡ old.counted + counted_losses pages

-- the page, if this is known of a loss of unknown number
abbrev pub told_by : Missed → Page → Page
told_by known page = told (missed_of known) page
