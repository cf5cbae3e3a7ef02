-- The line that says why nothing is made of a piece. docs/formats/program.md, "Fleets".
use Rattle.std.specs.Prelude.{ℕ, Bool, true, false, List, [], ◌∷◌, ◌++◌, codes}
use Rattle.std.specs.Fmt.{decimal}
use Rattle.text_model.specs.Text.{line_feed, space}
use Rattle.record_words.specs.declared.next.WordFault.{WordFault}
use Rattle.record_words.specs.declared.next.WordFault.TheVariants as words
use Rattle.page_image.specs.declared.image.ImageFault.{ImageFault}
use Rattle.page_image.specs.declared.image.ImageFault.TheVariants as images
use Rattle.page_numbers.specs.declared.fault.ParcelFault.{ParcelFault}
use Rattle.page_numbers.specs.declared.fault.ParcelFault.TheVariants as parcels
use Rattle.parcel_streams.specs.declared.fault.PieceFault.{PieceFault}
use Rattle.parcel_streams.specs.declared.fault.PieceFault.TheVariants as pieces
use Rattle.collector.specs.declared.fault.AddFault.{AddFault as Collected}
use Rattle.collector.specs.declared.fault.AddFault.TheVariants as collected
use Rattle.stream_collector.specs.declared.fault.AddFault.{AddFault}
use Rattle.stream_collector.specs.declared.fault.AddFault.TheVariants as added
use Rattle.stream_collector.specs.declared.fault.MarkFault.{MarkFault}
use Rattle.stream_collector.specs.declared.fault.MarkFault.TheVariants as marked
use Rattle.fleet_collector.specs.declared.refusal.PieceRefusal.{PieceRefusal}
use Rattle.fleet_collector.specs.declared.refusal.PieceRefusal.TheVariants as refusals
use Rattle.fleet_text.specs.declared.fault.PieceTrouble.{PieceTrouble}
use Rattle.fleet_text.specs.declared.fault.PieceTrouble.TheVariants.{Unread, Refused}
use Rattle.fleet_text.specs.Printing.{cpu_text}

-- ---- what can't be read, by the names of the faults in the library

abbrev pub word_fault_name : WordFault → List ℕ
word_fault_name (words.Cut at) = codes "Cut(" ++ decimal at ++ codes ")"
word_fault_name (words.BadLength at) = codes "BadLength(" ++ decimal at ++ codes ")"
word_fault_name (words.TimeOverflow at) = codes "TimeOverflow(" ++ decimal at ++ codes ")"

abbrev pub image_fault_name : ImageFault → List ℕ
image_fault_name images.TooShort = codes "TooShort"
image_fault_name images.BadSize = codes "BadSize"
image_fault_name images.BadCount = codes "BadCount"
image_fault_name (images.Word fault) = codes "Word(" ++ word_fault_name fault ++ codes ")"
image_fault_name images.NoMemory = codes "NoMemory"

abbrev pub parcel_fault_name : ParcelFault → List ℕ
parcel_fault_name (parcels.Image fault) = codes "Image(" ++ image_fault_name fault ++ codes ")"
parcel_fault_name parcels.NumberOverflow = codes "NumberOverflow"
parcel_fault_name parcels.MissedTooMany = codes "MissedTooMany"
parcel_fault_name parcels.MissedDiffers = codes "MissedDiffers"
parcel_fault_name parcels.BadCpu = codes "BadCpu"
parcel_fault_name parcels.NoMemory = codes "NoMemory"

abbrev pub piece_fault_name : PieceFault → List ℕ
piece_fault_name pieces.NotPacked = codes "NotPacked"
piece_fault_name pieces.Cut = codes "Cut"
piece_fault_name pieces.BadVersion = codes "BadVersion"
piece_fault_name pieces.BadLength = codes "BadLength"
piece_fault_name pieces.BadSum = codes "BadSum"
piece_fault_name pieces.BadKind = codes "BadKind"
piece_fault_name (pieces.Parcel fault) = codes "Parcel(" ++ parcel_fault_name fault ++ codes ")"
piece_fault_name pieces.Loose = codes "Loose"
piece_fault_name pieces.BadMark = codes "BadMark"
piece_fault_name pieces.NoMemory = codes "NoMemory"

-- ---- what is refused

-- a CPU of a stream, and a number of it
abbrev pub numbered_cpu : (stream cpu number : ℕ) → List ℕ
numbered_cpu stream cpu number = cpu_text stream cpu ++ space ∷ decimal number

-- by the parcels that are kept
abbrev pub refused_by_parcels : (stream : ℕ) → Collected → List ℕ
refused_by_parcels stream (collected.Clash cpu number) = codes "Clash " ++ numbered_cpu stream cpu.0 number.0
refused_by_parcels stream (collected.TakenAndMissing cpu number) =
    codes "TakenAndMissing " ++ numbered_cpu stream cpu.0 number.0
refused_by_parcels stream collected.NoMemory = codes "NoMemory"

abbrev pub refused_parcel : (stream : ℕ) → AddFault → List ℕ
refused_parcel stream (added.BeyondEnd cpu number) = codes "BeyondEnd " ++ numbered_cpu stream cpu.0 number.0
refused_parcel stream (added.Refused fault) = refused_by_parcels stream fault

abbrev pub refused_mark : (stream cpu : ℕ) → MarkFault → List ℕ
refused_mark stream cpu (marked.OtherEnd number) = codes "OtherEnd " ++ numbered_cpu stream cpu number.0
refused_mark stream cpu (marked.BeyondEnd number) = codes "BeyondEnd " ++ numbered_cpu stream cpu number.0
refused_mark stream cpu (marked.NotFinal number) = codes "NotFinal " ++ numbered_cpu stream cpu number.0
refused_mark stream cpu marked.NoMemory = codes "NoMemory"

-- ---- the line

abbrev pub trouble_text : PieceTrouble → List ℕ
trouble_text (Unread fault) = piece_fault_name fault
trouble_text (Refused stream cpu (refusals.Parcel fault)) = refused_parcel stream.0 fault
trouble_text (Refused stream cpu (refusals.Mark fault)) = refused_mark stream.0 cpu.0 fault

-- `at` and `index` are how many bytes and pieces of the input are before the piece
abbrev pub fault_line : (at index : ℕ) → PieceTrouble → List ℕ
fault_line at index trouble =
    codes "stream: " ++ trouble_text trouble ++ codes " at " ++ decimal at ++ codes " piece " ++ decimal index
    ++ line_feed ∷ []

-- ---- refused memory, which is no fault of the piece, and has a line of its own

abbrev pub is_memory_fault : PieceFault → Bool
is_memory_fault pieces.NoMemory = true
is_memory_fault _ = false

abbrev pub is_memory_refusal : PieceRefusal → Bool
is_memory_refusal (refusals.Parcel (added.Refused collected.NoMemory)) = true
is_memory_refusal (refusals.Parcel _) = false
is_memory_refusal (refusals.Mark marked.NoMemory) = true
is_memory_refusal (refusals.Mark _) = false

abbrev pub is_no_memory : PieceTrouble → Bool
is_no_memory (Unread fault) = is_memory_fault fault
is_no_memory (Refused stream cpu refusal) = is_memory_refusal refusal
