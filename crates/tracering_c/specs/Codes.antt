-- The numbers by which C is answered.
use Rattle.std.specs.Prelude.{ℕ, ℤ, Bool, true, false, ◌==◌, ◌&&◌, if◌then◌else◌, Result, Ok, Err}
use Rattle.record_words.specs.declared.next.WordFault.{WordFault}
use Rattle.record_words.specs.declared.next.WordFault.TheVariants.{Cut, BadLength, TimeOverflow}
use Rattle.page_image.specs.declared.image.ImageFault.{ImageFault}
use Rattle.page_image.specs.declared.image.ImageFault.TheVariants.{TooShort, BadSize, BadCount, Word}
use Rattle.page_image.specs.declared.image.ImageFault.TheVariants.{NoMemory as NoMemoryThere}
use Rattle.page_numbers.specs.declared.fault.ParcelFault.{ParcelFault}
use Rattle.page_numbers.specs.declared.fault.ParcelFault.TheVariants.{Image, NumberOverflow, MissedTooMany}
use Rattle.page_numbers.specs.declared.fault.ParcelFault.TheVariants.{MissedDiffers, BadCpu, NoMemory}
use Rattle.collector.specs.declared.added.Added.{Added}
use Rattle.collector.specs.declared.added.Added.TheVariants.{New, Known}
use Rattle.collector.specs.declared.fault.AddFault.{AddFault}
use Rattle.collector.specs.declared.fault.AddFault.TheVariants.{Clash, TakenAndMissing, NoMemory as NoMemoryToAdd}
use Rattle.library_values.specs.declared.listed_collector.adding.AddRefusal.{AddRefusal}
use Rattle.library_values.specs.declared.listed_collector.adding.AddRefusal.TheVariants.{Parcel as NoParcel}
use Rattle.library_values.specs.declared.listed_collector.adding.AddRefusal.TheVariants.{Add as NotAdded}
use Rattle.library_values.specs.declared.listed_collector.listed.LineNumbers.{LineNumbers}
use Rattle.library_values.specs.declared.listed_collector.listed.Given.{Given}
use Rattle.library_values.specs.declared.listed_collector.listed.Given.TheVariants.{Line as IsLine, NoRoom, End}
use Rattle.tracering_c.specs.declared.codes.TheConstants.{NOTHING_CLOSED, KNOWN, RESERVED, DONE, TOO_DEEP, TOO_LONG}
use Rattle.tracering_c.specs.declared.codes.TheConstants.{LATE_MOMENT, CROWDED, WORN, NO_FRAME, NOT_RESERVED, NO_MEMORY}
use Rattle.tracering_c.specs.declared.codes.TheConstants.{BAD_CPU, NO_ROOM, TOO_SHORT, BAD_IMAGE_SIZE, BAD_COUNT, CUT}
use Rattle.tracering_c.specs.declared.codes.TheConstants.{BAD_LENGTH, TIME_OVERFLOW, NUMBER_OVERFLOW, MISSED_TOO_MANY}
use Rattle.tracering_c.specs.declared.codes.TheConstants.{MISSED_DIFFERS, CLASH, TAKEN_AND_MISSING, END}
use Rattle.tracering_c.specs.declared.collected.FaultAt.{FaultAt}
use Rattle.tracering_c.specs.declared.collected.Listed.{Listed}
use Rattle.nested_writer.specs.declared.fault.WriteFault.{WriteFault}
use Rattle.nested_writer.specs.declared.fault.WriteFault.TheVariants.{TooDeep, TooLong, LateMoment, Crowded, Worn}
use Rattle.nested_writer.specs.declared.fault.WriteFault.TheVariants.{NoFrame, NotReserved}
use Rattle.ring_shared.specs.Value.{WriterValue}
use Rattle.ring_shared.specs.Calls.{closes_first}
use Rattle.ring_frames.specs.declared.answer.Answer.{Answer}
use Rattle.ring_frames.specs.declared.answer.Answer.TheVariants.{Pushed, Going, Reserved, Ended, Gone, Refused, Looking}
use Rattle.ring_frames.specs.declared.answer.Answer.TheVariants.{Empty, Moving, Taken, Wished}

-- the number of a refusal
abbrev pub fault_code : WriteFault → ℤ
fault_code TooDeep = TOO_DEEP
fault_code TooLong = TOO_LONG
fault_code LateMoment = LATE_MOMENT
fault_code Crowded = CROWDED
fault_code Worn = WORN
fault_code NoFrame = NO_FRAME
fault_code NotReserved = NOT_RESERVED

-- The number of a writer's answer: that of a refusal, RESERVED for a record that is reserved, else DONE.
abbrev pub answer_code : Answer → ℤ
answer_code Pushed = DONE
answer_code Going = DONE
answer_code (Reserved number) = RESERVED
answer_code (Ended how) = DONE
answer_code Gone = DONE
answer_code (Refused fault) = fault_code fault
answer_code (Looking body) = DONE
answer_code (Empty done body) = DONE
answer_code (Moving fill body) = DONE
answer_code (Taken page missed) = DONE
answer_code (Wished fill) = DONE

-- whether the answer is that the frame on top is gone, and it wasn't refused
abbrev pub is_gone : Answer → Bool
is_gone Pushed = false
is_gone Going = false
is_gone (Reserved number) = false
is_gone (Ended how) = false
is_gone Gone = true
is_gone (Refused fault) = false
is_gone (Looking body) = false
is_gone (Empty done body) = false
is_gone (Moving fill body) = false
is_gone (Taken page missed) = false
is_gone (Wished fill) = false

-- Whether what was finished is a close that closed nothing: the frame on top is a close, it is gone and not refused,
-- and as many fills are begun as before.
abbrev pub closed_nothing : WriterValue → Answer → WriterValue → Bool
closed_nothing old answer new =
    closes_first old.part.frames && is_gone answer && (new.part.opened == old.part.opened)

-- The number of the answer to what is finished: NOTHING_CLOSED for a close that closed nothing, else that of the
-- writer's answer.
abbrev pub finish_code : WriterValue → Answer → WriterValue → ℤ
finish_code old answer new = if closed_nothing old answer new then NOTHING_CLOSED else answer_code answer

-- ---- collectors

-- the number of a bad word, and where it is
abbrev pub word_code : WordFault → ℤ
word_code (Cut at) = CUT
word_code (BadLength at) = BAD_LENGTH
word_code (TimeOverflow at) = TIME_OVERFLOW

abbrev pub word_at : WordFault → ℕ
word_at (Cut at) = at
word_at (BadLength at) = at
word_at (TimeOverflow at) = at

-- the number of an image's fault
abbrev pub image_code : ImageFault → ℤ
image_code TooShort = TOO_SHORT
image_code BadSize = BAD_IMAGE_SIZE
image_code BadCount = BAD_COUNT
image_code (Word fault) = word_code fault
image_code NoMemoryThere = NO_MEMORY

-- the number of why bytes are no parcel
abbrev pub parcel_code : ParcelFault → ℤ
parcel_code (Image fault) = image_code fault
parcel_code NumberOverflow = NUMBER_OVERFLOW
parcel_code MissedTooMany = MISSED_TOO_MANY
parcel_code MissedDiffers = MISSED_DIFFERS
parcel_code BadCpu = BAD_CPU
parcel_code NoMemory = NO_MEMORY

-- the number of what is answered to bytes that are to be added
abbrev pub add_code : Result Added AddRefusal → ℤ
add_code (Ok New) = DONE
add_code (Ok Known) = KNOWN
add_code (Err (NoParcel fault)) = parcel_code fault
add_code (Err (NotAdded (Clash cpu number))) = CLASH
add_code (Err (NotAdded (TakenAndMissing cpu number))) = TAKEN_AND_MISSING
add_code (Err (NotAdded NoMemoryToAdd)) = NO_MEMORY

-- what is answered to a page that is to be added, as it is to bytes
abbrev pub page_answer : Result Added AddFault → Result Added AddRefusal
page_answer (Ok added) = Ok added
page_answer (Err fault) = Err (NotAdded fault)

-- where the bytes of a parcel are refused: at a bad word, or under the number at odds
abbrev pub parcel_fault_at : FaultAt → ParcelFault → FaultAt
parcel_fault_at was (Image TooShort) = was
parcel_fault_at was (Image BadSize) = was
parcel_fault_at was (Image BadCount) = was
parcel_fault_at was (Image (Word fault)) = record was { number = word_at fault }
parcel_fault_at was (Image NoMemoryThere) = was
parcel_fault_at was NumberOverflow = was
parcel_fault_at was MissedTooMany = was
parcel_fault_at was MissedDiffers = was
parcel_fault_at was BadCpu = was
parcel_fault_at was NoMemory = was

abbrev pub fault_at : FaultAt → Result Added AddRefusal → FaultAt
fault_at was (Ok added) = was
fault_at was (Err (NoParcel fault)) = parcel_fault_at was fault
fault_at was (Err (NotAdded (Clash cpu number))) = record { number = number.0; cpu = cpu.0 }
fault_at was (Err (NotAdded (TakenAndMissing cpu number))) = record { number = number.0; cpu = cpu.0 }
fault_at was (Err (NotAdded NoMemoryToAdd)) = was

-- the number of what is given of a listing, and the numbers of the line that is next
abbrev pub given_code : Given → ℤ
given_code (IsLine numbers) = DONE
given_code (NoRoom numbers) = NO_ROOM
given_code End = END

abbrev pub line_at : LineNumbers → Listed
line_at numbers = record {
  moment = numbers.moment.0;
  number = numbers.number.0;
  cpu = numbers.cpu.0;
  len = numbers.len;
}

abbrev pub next_line : Listed → Given → Listed
next_line was (IsLine numbers) = line_at numbers
next_line was (NoRoom numbers) = line_at numbers
next_line was End = was
