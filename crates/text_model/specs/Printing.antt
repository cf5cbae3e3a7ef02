-- What is printed of a line of the log, of a page image, and of the fault of a script or of an image.
-- docs/formats/program.md, "Printed text" and "Log".
use Rattle.std.specs.Prelude.{ℕ, List, [], ◌∷◌, ◌++◌, flat_map, codes}
use Rattle.std.specs.Fmt.{decimal}
use Rattle.trace_model.specs.Record.{Record}
use Rattle.text_model.specs.Text.{hex_text}
use Rattle.text_model.specs.ScriptLines.{LineFault, fault_text}
use Rattle.text_model.specs.Log.{LogLine, refused, taken, empty, moving, asks, new_delivery, known_delivery}
use Rattle.text_model.specs.Log.{untaken_delivery}
use Rattle.trace_model.specs.Frames.{WriteFault, too_deep, too_long, late_moment, crowded, worn, no_frame, not_reserved}
use Rattle.trace_model.specs.Faults.{Cause, cut, bad_length, time_overflow}
use Rattle.trace_model.specs.Image.{Missed, none, unknown, counted, ImageCause, too_short, bad_size, bad_count}
use Rattle.trace_model.specs.Image.{bad_word}

-- the name of why a push, a step or an end is refused
abbrev pub refusal_text : WriteFault → List ℕ
refusal_text too_deep = codes "TooDeep"
refusal_text too_long = codes "TooLong"
refusal_text late_moment = codes "LateMoment"
refusal_text crowded = codes "Crowded"
refusal_text worn = codes "Worn"
refusal_text no_frame = codes "NoFrame"
refusal_text not_reserved = codes "NotReserved"

-- the front of a log line: the number of the script's line, and a CPU
abbrev pub line_text : ℕ → ℕ → List ℕ
line_text line cpu = decimal line ++ codes " c" ++ decimal cpu

-- a page that was taken: its fill, the number of its first record, how many records it has, and how
-- many were missed before them
abbrev pub page_text : ℕ → ℕ → ℕ → ℕ → List ℕ
page_text fill first count missed =
    codes " taken fill " ++ decimal fill ++ codes " first " ++ decimal first
    ++ codes " count " ++ decimal count ++ codes " missed " ++ decimal missed

-- the front of a delivery's log line: the number of the script's line, a collector, a CPU, and a fill
abbrev pub delivery_text : ℕ → ℕ → ℕ → ℕ → List ℕ
delivery_text line collector cpu fill =
    decimal line ++ codes " d " ++ decimal collector ++ codes " c" ++ decimal cpu ++ codes " " ++ decimal fill

-- a line of the log, without its end
abbrev pub log_line_text : LogLine → List ℕ
log_line_text (refused line cpu why) = line_text line cpu ++ codes " refused " ++ refusal_text why
log_line_text (taken line cpu fill first count missed) = line_text line cpu ++ page_text fill first count missed
log_line_text (empty line cpu) = line_text line cpu ++ codes " empty"
log_line_text (moving line cpu fill) = line_text line cpu ++ codes " moving " ++ decimal fill
log_line_text (asks line cpu fill) = line_text line cpu ++ codes " asks " ++ decimal fill
log_line_text (new_delivery line collector cpu fill) = delivery_text line collector cpu fill ++ codes " new"
log_line_text (known_delivery line collector cpu fill) = delivery_text line collector cpu fill ++ codes " known"
log_line_text (untaken_delivery line collector cpu fill) = delivery_text line collector cpu fill ++ codes " not-taken"

-- a line of the log
abbrev pub printed_log_line : LogLine → List ℕ
printed_log_line line = log_line_text line ++ 10 ∷ []

-- the line that states which line of a script is at fault, and how
abbrev pub printed_fault : ℕ → LineFault → List ℕ
printed_fault number fault = fault_text number fault ++ 10 ∷ []

-- what an image states of missed records
abbrev pub missed_text : Missed → List ℕ
missed_text none = codes "none"
missed_text unknown = codes "unknown"
missed_text (counted number) = decimal number

-- the line of a record in an image: its moment and its payload
abbrev pub printed_image_record : Record → List ℕ
printed_image_record r = decimal r.moment ++ 32 ∷ hex_text r.bytes ++ 10 ∷ []

-- an image: its time, how many bytes of data it states, its missed records, then a line for each record
abbrev pub printed_image : ℕ → ℕ → Missed → List Record → List ℕ
printed_image time size missed records =
    codes "page " ++ decimal time ++ codes " size " ++ decimal size ++ codes " missed " ++ missed_text missed
    ++ 10 ∷ flat_map printed_image_record records

-- the name of what is wrong with a word
abbrev pub cause_text : Cause → List ℕ
cause_text cut = codes "Cut"
cause_text bad_length = codes "BadLength"
cause_text time_overflow = codes "TimeOverflow"

-- what is wrong with an image; a word is named by its offset in bytes, counted from the end of the header
abbrev pub image_fault_text : ImageCause → List ℕ
image_fault_text too_short = codes "TooShort"
image_fault_text bad_size = codes "BadSize"
image_fault_text bad_count = codes "BadCount"
image_fault_text (bad_word cause at) = cause_text cause ++ codes " at " ++ decimal at

-- the line that states what is wrong with an image
abbrev pub printed_image_fault : ImageCause → List ℕ
printed_image_fault cause = codes "image: " ++ image_fault_text cause ++ 10 ∷ []
