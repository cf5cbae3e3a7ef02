-- The first fault of an image is printed as `dump` is to print it.
use Rattle.std.proofs.Common.{◌≡◌, ◌≢◌, ◌↔◌, ℕ, List, [], ◌∷◌, ◌++◌, codes, Result, Err, refl, sym, subst}
use Rattle.std.specs.Fmt.{decimal}
use Rattle.trace_model.specs.Faults.{Cause, cut, bad_length, time_overflow}
use Rattle.trace_model.specs.Image.{ImageCause, FirstImageFault, too_short, bad_size, bad_count, bad_word}
use Rattle.text_model.specs.Printing.{cause_text, image_fault_text, printed_image_fault}
use Rattle.record_words.specs.declared.next.WordFault.{WordFault}
use Rattle.record_words.specs.declared.next.WordFault.TheVariants.{Cut, BadLength, TimeOverflow}
use Rattle.page_image.specs.declared.image.Image.{Image}
use Rattle.page_image.specs.declared.image.ImageFault.{ImageFault}
use Rattle.page_image.specs.declared.image.ImageFault.TheVariants.{TooShort, BadSize, BadCount, Word, NoMemory}
use Rattle.page_image.specs.Images.{word_fault}
use Rattle.command_io.specs.declared.status.TheConstants.{REFUSED}
use Rattle.dump_command.specs.Dumps.{PrintsImageFault}
use Rattle.dump_command.specs.ImageFaults.{reader_fault_text, word_fault_text}

-- a name and an offset that were put are the text of the cause of this name
placed_text : (cause : Cause) (at : ℕ) (name old new : List ℕ) → cause_text cause ≡ name
    → new ≡ old ++ (name ++ codes " at " ++ decimal at) → new ≡ old ++ image_fault_text (bad_word cause at)
placed_text cause at name old new is put =
    subst (λ (n : List ℕ). new ≡ old ++ (n ++ codes " at " ++ decimal at)) (sym is) put

-- the text of a time that overflows
pub overflow_text : (fault : WordFault) (at : ℕ) (name old new : List ℕ) → fault ≡ TimeOverflow at
    → cause_text time_overflow ≡ name → new ≡ old ++ (name ++ codes " at " ++ decimal at)
    → new ≡ old ++ word_fault_text fault
overflow_text fault at name old new is named put =
    subst (λ (f : WordFault). new ≡ old ++ word_fault_text f) (sym is)
    (placed_text time_overflow at name old new named put)

-- what the reading of an image says of its first fault
pub record SaysFirst (text : List ℕ) (r : Result Image ImageFault) : Type 0 where
  pub short : (r ≡ Err TooShort) ↔ FirstImageFault text too_short
  pub size : (r ≡ Err BadSize) ↔ FirstImageFault text bad_size
  pub count : (r ≡ Err BadCount) ↔ FirstImageFault text bad_count
  pub word : (cause : Cause) (at : ℕ)
      → (r ≡ Err (Word (word_fault cause at))) ↔ FirstImageFault text (bad_word cause at)

printed_first : (text : List ℕ) (cause : ImageCause) (line : List ℕ) → FirstImageFault text cause
    → line ≡ printed_image_fault cause → PrintsImageFault text line REFUSED
printed_first text cause line first printed = record { cause = cause; first = first; printed = printed; refused = refl }

-- every fault but refused memory is the first one, and its line is printed
pub first_fault_is_printed : (text : List ℕ) (r : Result Image ImageFault) (fault : ImageFault) (line : List ℕ)
    → SaysFirst text r → r ≡ Err fault → fault ≢ NoMemory → line ≡ codes "image: " ++ reader_fault_text fault ++ 10 ∷ []
    → PrintsImageFault text line REFUSED
first_fault_is_printed text r TooShort line says is other printed =
    printed_first text too_short line (says.short.0 is) printed
first_fault_is_printed text r BadSize line says is other printed =
    printed_first text bad_size line (says.size.0 is) printed
first_fault_is_printed text r BadCount line says is other printed =
    printed_first text bad_count line (says.count.0 is) printed
first_fault_is_printed text r (Word (Cut at)) line says is other printed =
    printed_first text (bad_word cut at) line ((says.word cut at).0 is) printed
first_fault_is_printed text r (Word (BadLength at)) line says is other printed =
    printed_first text (bad_word bad_length at) line ((says.word bad_length at).0 is) printed
first_fault_is_printed text r (Word (TimeOverflow at)) line says is other printed =
    printed_first text (bad_word time_overflow at) line ((says.word time_overflow at).0 is) printed
first_fault_is_printed text r NoMemory line says is other printed = absurd (other refl)
