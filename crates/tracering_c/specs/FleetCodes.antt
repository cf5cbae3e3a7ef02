-- The numbers by which C is answered of fleets, and what is stored beside them.
use Rattle.std.specs.Prelude.{ℕ, ℤ, Option, Some, None, Result, Ok, Err}
use Rattle.trace_model.specs.declared.numbers.Moment.{Moment}
use Rattle.collector.specs.declared.fault.AddFault.TheVariants.{Clash, TakenAndMissing, NoMemory as NoMemoryToAdd}
use Rattle.page_numbers.specs.declared.fault.ParcelFault.{ParcelFault}
use Rattle.parcel_streams.specs.declared.fault.PieceFault.{PieceFault}
use Rattle.parcel_streams.specs.declared.fault.PieceFault.TheVariants.{NotPacked, Cut, BadVersion, BadLength, BadSum}
use Rattle.parcel_streams.specs.declared.fault.PieceFault.TheVariants.{BadKind, Parcel as NoParcel, Loose, BadMark}
use Rattle.parcel_streams.specs.declared.fault.PieceFault.TheVariants.{NoMemory as NoPieceMemory}
use Rattle.stream_collector.specs.declared.added.Added.{Added}
use Rattle.stream_collector.specs.declared.added.Added.TheVariants.{New, Known, Forgotten}
use Rattle.stream_collector.specs.declared.added.Marked.{Marked}
use Rattle.stream_collector.specs.declared.added.Marked.TheVariants.{New as NewMark, Known as KnownMark}
use Rattle.stream_collector.specs.declared.fault.AddFault.{AddFault}
use Rattle.stream_collector.specs.declared.fault.AddFault.TheVariants.{BeyondEnd as ParcelBeyondEnd}
use Rattle.stream_collector.specs.declared.fault.AddFault.TheVariants.{Refused as ParcelRefused}
use Rattle.stream_collector.specs.declared.fault.MarkFault.{MarkFault}
use Rattle.stream_collector.specs.declared.fault.MarkFault.TheVariants.{OtherEnd, BeyondEnd, NotFinal, NoMemory}
use Rattle.stream_collector.specs.declared.fault.MergeFault.{MergeFault}
use Rattle.stream_collector.specs.declared.fault.MergeFault.TheVariants.{OtherEnd as EndsDiffer}
use Rattle.stream_collector.specs.declared.fault.MergeFault.TheVariants.{BeyondEnd as MergeBeyondEnd}
use Rattle.stream_collector.specs.declared.fault.MergeFault.TheVariants.{Clash as MergeClash}
use Rattle.stream_collector.specs.declared.fault.MergeFault.TheVariants.{TakenAndMissing as MergeTakenAndMissing}
use Rattle.stream_collector.specs.declared.fault.MergeFault.TheVariants.{NoMemory as NoMergeMemory}
use Rattle.fleet_collector.specs.declared.merge_fault.FleetMergeFault.{FleetMergeFault}
use Rattle.fleet_collector.specs.declared.refusal.PieceRefusal.{PieceRefusal}
use Rattle.fleet_collector.specs.declared.refusal.PieceRefusal.TheVariants.{Parcel, Mark}
use Rattle.library_values.specs.declared.listed_fleet.adding.AddAnswer.{AddAnswer}
use Rattle.library_values.specs.declared.listed_fleet.adding.AddAnswer.TheVariants.{Added as IsAdded}
use Rattle.library_values.specs.declared.listed_fleet.adding.AddAnswer.TheVariants.{Refused as IsRefused, NoPiece}
use Rattle.library_values.specs.declared.buffer.Put.{Put}
use Rattle.library_values.specs.declared.buffer.Put.TheVariants.{Done, NoRoom}
use Rattle.library_values.specs.declared.listed_fleet.listed.LineNumbers.{LineNumbers}
use Rattle.library_values.specs.declared.listed_fleet.listed.Given.{Given}
use Rattle.library_values.specs.declared.listed_fleet.listed.Given.TheVariants.{Line as IsLine, NoRoom as LacksRoom}
use Rattle.library_values.specs.declared.listed_fleet.listed.Given.TheVariants.{End as AtEnd}
use Rattle.tracering_c.specs.declared.codes.TheConstants.{KNOWN, DONE, NO_MEMORY, NO_ROOM, CLASH, TAKEN_AND_MISSING}
use Rattle.tracering_c.specs.declared.codes.TheConstants.{END}
use Rattle.tracering_c.specs.declared.fleet_codes.TheConstants.{FORGOTTEN, NOT_PACKED, PIECE_CUT, BAD_VERSION}
use Rattle.tracering_c.specs.declared.fleet_codes.TheConstants.{BAD_PIECE_LENGTH, BAD_SUM, BAD_KIND, LOOSE, BAD_MARK}
use Rattle.tracering_c.specs.declared.fleet_codes.TheConstants.{BEYOND_END, OTHER_END, NOT_FINAL}
use Rattle.tracering_c.specs.declared.fleet_codes.StreamFault.{StreamFault}
use Rattle.tracering_c.specs.declared.fleet_codes.FleetLine.{FleetLine}
use Rattle.tracering_c.specs.Codes.{parcel_code}

-- the number of why bytes have no piece at their front
abbrev pub piece_code : PieceFault → ℤ
piece_code NotPacked = NOT_PACKED
piece_code Cut = PIECE_CUT
piece_code BadVersion = BAD_VERSION
piece_code BadLength = BAD_PIECE_LENGTH
piece_code BadSum = BAD_SUM
piece_code BadKind = BAD_KIND
piece_code (NoParcel fault) = parcel_code fault
piece_code Loose = LOOSE
piece_code BadMark = BAD_MARK
piece_code NoPieceMemory = NO_MEMORY

-- the number of why a parcel isn't added, and under which number of its CPU
abbrev pub parcel_refusal_code : AddFault → ℤ
parcel_refusal_code (ParcelBeyondEnd cpu number) = BEYOND_END
parcel_refusal_code (ParcelRefused (Clash cpu number)) = CLASH
parcel_refusal_code (ParcelRefused (TakenAndMissing cpu number)) = TAKEN_AND_MISSING
parcel_refusal_code (ParcelRefused NoMemoryToAdd) = NO_MEMORY

abbrev pub parcel_number : AddFault → Option ℕ
parcel_number (ParcelBeyondEnd cpu number) = Some number.0
parcel_number (ParcelRefused (Clash cpu number)) = Some number.0
parcel_number (ParcelRefused (TakenAndMissing cpu number)) = Some number.0
parcel_number (ParcelRefused NoMemoryToAdd) = None

-- the number of why a mark is refused, or a bound isn't raised
abbrev pub mark_code : MarkFault → ℤ
mark_code (OtherEnd number) = OTHER_END
mark_code (BeyondEnd number) = BEYOND_END
mark_code (NotFinal number) = NOT_FINAL
mark_code NoMemory = NO_MEMORY

abbrev pub mark_number : MarkFault → Option ℕ
mark_number (OtherEnd number) = Some number.0
mark_number (BeyondEnd number) = Some number.0
mark_number (NotFinal number) = Some number.0
mark_number NoMemory = None

-- the number of why a piece is refused
abbrev pub refusal_code : PieceRefusal → ℤ
refusal_code (Parcel fault) = parcel_refusal_code fault
refusal_code (Mark fault) = mark_code fault

abbrev pub refusal_number : PieceRefusal → Option ℕ
refusal_number (Parcel fault) = parcel_number fault
refusal_number (Mark fault) = mark_number fault

-- the number of what became of a piece that was added
abbrev pub added_code : Added → ℤ
added_code New = DONE
added_code Known = KNOWN
added_code Forgotten = FORGOTTEN

-- the number of what is answered to bytes whose first piece is to be added
abbrev pub answer_code : AddAnswer → ℤ
answer_code (IsAdded added len) = added_code added
answer_code (IsRefused refused len) = refusal_code refused.refusal
answer_code (NoPiece fault) = piece_code fault

-- how many bytes the piece has, if it was read
abbrev pub answer_used : ℕ → AddAnswer → ℕ
answer_used was (IsAdded added len) = len
answer_used was (IsRefused refused len) = len
answer_used was (NoPiece fault) = was

-- the place of a number of a stream's CPU, if there is one
abbrev pub place_at : StreamFault → (stream cpu : ℕ) → Option ℕ → StreamFault
place_at was stream cpu None = was
place_at was stream cpu (Some number) = record { stream = stream; number = number; cpu = cpu }

-- where a piece is refused
abbrev pub answer_at : StreamFault → AddAnswer → StreamFault
answer_at was (IsAdded added len) = was
answer_at was (IsRefused refused len) =
    place_at was refused.stream.0 refused.cpu.0 (refusal_number refused.refusal)
answer_at was (NoPiece fault) = was

-- the number of what is answered to a bound that is to be raised, and where it is refused
abbrev pub marked_code : Result Marked MarkFault → ℤ
marked_code (Ok NewMark) = DONE
marked_code (Ok KnownMark) = KNOWN
marked_code (Err fault) = mark_code fault

abbrev pub marked_at : StreamFault → (stream cpu : ℕ) → Result Marked MarkFault → StreamFault
marked_at was stream cpu (Ok marked) = was
marked_at was stream cpu (Err fault) = place_at was stream cpu (mark_number fault)

-- the number of why streams aren't merged
abbrev pub merge_code : MergeFault → ℤ
merge_code (EndsDiffer cpu end other) = OTHER_END
merge_code (MergeBeyondEnd cpu number) = BEYOND_END
merge_code (MergeClash cpu number) = CLASH
merge_code (MergeTakenAndMissing cpu number) = TAKEN_AND_MISSING
merge_code NoMergeMemory = NO_MEMORY

-- the number of what is answered to fleets that are to be merged, and where they are at odds
abbrev pub merged_code : Option FleetMergeFault → ℤ
merged_code (Some fault) = merge_code fault.fault
merged_code None = DONE

abbrev pub merge_at : StreamFault → (stream : ℕ) → MergeFault → StreamFault
merge_at was stream (EndsDiffer cpu end other) = record { stream = stream; number = other.0; cpu = cpu.0 }
merge_at was stream (MergeBeyondEnd cpu number) = record { stream = stream; number = number.0; cpu = cpu.0 }
merge_at was stream (MergeClash cpu number) = record { stream = stream; number = number.0; cpu = cpu.0 }
merge_at was stream (MergeTakenAndMissing cpu number) = record { stream = stream; number = number.0; cpu = cpu.0 }
merge_at was stream NoMergeMemory = was

abbrev pub merged_at : StreamFault → Option FleetMergeFault → StreamFault
merged_at was (Some fault) = merge_at was fault.stream.0 fault.fault
merged_at was None = was

-- the number of what became of a piece that was to go to a buffer, and how many bytes it has, if it could be packed
abbrev pub packed_code : Result Put ParcelFault → ℤ
packed_code (Ok (Done len)) = DONE
packed_code (Ok (NoRoom len)) = NO_ROOM
packed_code (Err fault) = parcel_code fault

abbrev pub packed_len : ℕ → Result Put ParcelFault → ℕ
packed_len was (Ok (Done len)) = len
packed_len was (Ok (NoRoom len)) = len
packed_len was (Err fault) = was

-- the number of what is found, or isn't
abbrev pub found_code : Option ℕ → ℤ
found_code (Some number) = DONE
found_code None = END

-- the number of a frontier, if there is one, and its moment
abbrev pub frontier_code : Option Moment → ℤ
frontier_code (Some moment) = DONE
frontier_code None = END

abbrev pub frontier_moment : ℕ → Option Moment → ℕ
frontier_moment was (Some moment) = moment.0
frontier_moment was None = was

-- the number of what is given of a listing, and the numbers of the line that is next
abbrev pub given_code : Given → ℤ
given_code (IsLine numbers) = DONE
given_code (LacksRoom numbers) = NO_ROOM
given_code AtEnd = END

abbrev pub line_at : LineNumbers → FleetLine
line_at numbers = record {
  moment = numbers.moment.0;
  stream = numbers.stream.0;
  number = numbers.number.0;
  cpu = numbers.cpu.0;
  len = numbers.len;
}

abbrev pub next_line : FleetLine → Given → FleetLine
next_line was (IsLine numbers) = line_at numbers
next_line was (LacksRoom numbers) = line_at numbers
next_line was AtEnd = was
