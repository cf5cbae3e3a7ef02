-- What the command `dump` prints for a text, with which exit status.
use Rattle.std.specs.Prelude.{◌≡◌, ℕ, ◌⊎◌, List}
use Rattle.trace_model.specs.Record.{Record}
use Rattle.trace_model.specs.Image.{Missed, DecodesImage, ImageCause, FirstImageFault}
use Rattle.text_model.specs.Printing.{printed_image, printed_image_fault}
use Rattle.command_io.specs.declared.status.TheConstants.{DONE, REFUSED}

-- the text is a page image, and these bytes are the printing of its reading
pub record PrintsImage (text bytes : List ℕ) (status : ℕ) : Type 0 where
  pub time : ℕ
  pub size : ℕ
  pub missed : Missed
  pub records : List Record
  pub reads : DecodesImage text time size missed records
  pub printed : bytes ≡ printed_image time size missed records
  pub done : status ≡ DONE

-- the text, as an image, has a first fault, and these bytes are its line
pub record PrintsImageFault (text bytes : List ℕ) (status : ℕ) : Type 0 where
  pub cause : ImageCause
  pub first : FirstImageFault text cause
  pub printed : bytes ≡ printed_image_fault cause
  pub refused : status ≡ REFUSED

-- What `dump` gives for a text. A text has one reading as an image or a first fault, and never both.
abbrev pub DumpGives : List ℕ → List ℕ → ℕ → Type 0
DumpGives text bytes status = PrintsImage text bytes status ⊎ PrintsImageFault text bytes status
