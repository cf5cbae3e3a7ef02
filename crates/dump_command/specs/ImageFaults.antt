-- What is printed of the faults of an image's reader, in the words of trace_model.
use Rattle.std.specs.Prelude.{ℕ, List, []}
use Rattle.trace_model.specs.Faults.{cut, bad_length, time_overflow}
use Rattle.trace_model.specs.Image.{too_short, bad_size, bad_count, bad_word}
use Rattle.text_model.specs.Printing.{image_fault_text}
use Rattle.record_words.specs.declared.next.WordFault.{WordFault}
use Rattle.record_words.specs.declared.next.WordFault.TheVariants.{Cut, BadLength, TimeOverflow}
use Rattle.page_image.specs.declared.image.ImageFault.{ImageFault}
use Rattle.page_image.specs.declared.image.ImageFault.TheVariants.{TooShort, BadSize, BadCount, Word, NoMemory}

-- the text of a word's fault
abbrev pub word_fault_text : WordFault → List ℕ
word_fault_text (Cut at) = image_fault_text (bad_word cut at)
word_fault_text (BadLength at) = image_fault_text (bad_word bad_length at)
word_fault_text (TimeOverflow at) = image_fault_text (bad_word time_overflow at)

-- The text of a fault, without the rest of its line. The refusal of memory is no fault of the image, and has no such
-- text.
abbrev pub reader_fault_text : ImageFault → List ℕ
reader_fault_text TooShort = image_fault_text too_short
reader_fault_text BadSize = image_fault_text bad_size
reader_fault_text BadCount = image_fault_text bad_count
reader_fault_text (Word fault) = word_fault_text fault
reader_fault_text NoMemory = []
