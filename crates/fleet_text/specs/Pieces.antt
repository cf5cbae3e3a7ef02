-- The lines of pieces, as text or as JSON. docs/formats/program.md, "Fleets".
use Rattle.std.specs.Prelude.{ℕ, ◌-◌, List, [], ◌∷◌, ◌++◌, length, codes}
use Rattle.std.specs.Fmt.{decimal}
use Rattle.text_model.specs.Text.{line_feed, space}
use Rattle.trace_model.specs.Parcel.{Parcel}
use Rattle.parcel_streams.specs.Pieces.{Packed, parcel_piece, mark_piece}
use Rattle.parcel_streams.specs.declared.piece.Mark.{Mark}
use Rattle.parcel_streams.specs.declared.piece.Mark.TheVariants.{End, Forgotten, Undelivered}
use Rattle.capture_text.specs.declared.form.Form.{Form}
use Rattle.capture_text.specs.declared.form.Form.TheVariants.{Text, Json}
use Rattle.fleet_text.specs.Printing.{cpu_text, json_cpu}

-- ---- where a piece is: how many inputs are before its own, how many bytes of that are before it, and how many it has

abbrev pub place_text : (input at count : ℕ) → List ℕ
place_text input at count = decimal input ++ space ∷ decimal at ++ space ∷ decimal count

abbrev pub json_place : (input at count : ℕ) → List ℕ
json_place input at count =
    codes "\"input\":" ++ decimal input ++ codes ",\"offset\":" ++ decimal at ++ codes ",\"length\":" ++ decimal count

-- ---- what it says

-- a parcel: its fill, the number of its first record, how many records it has, and how many before the first it misses
abbrev pub parcel_text : (stream : ℕ) → Parcel → List ℕ
parcel_text stream parcel =
    codes "parcel " ++ cpu_text stream parcel.cpu ++ codes " fill " ++ decimal parcel.fill
    ++ codes " first " ++ decimal parcel.first ++ codes " count " ++ decimal (length parcel.records)
    ++ codes " missed " ++ decimal parcel.missed

abbrev pub json_parcel : (stream : ℕ) → Parcel → List ℕ
json_parcel stream parcel =
    json_cpu stream parcel.cpu ++ codes ",\"fill\":" ++ decimal parcel.fill
    ++ codes ",\"first\":" ++ decimal parcel.first ++ codes ",\"count\":" ++ decimal (length parcel.records)
    ++ codes ",\"missed\":" ++ decimal parcel.missed

abbrev pub mark_name : Mark → List ℕ
mark_name (End count) = codes "end"
mark_name (Forgotten bound) = codes "forgotten"
mark_name (Undelivered first end) = codes "undelivered"

-- the number of a mark; the first and the last of a run
abbrev pub mark_numbers : Mark → List ℕ
mark_numbers (End count) = decimal count
mark_numbers (Forgotten bound) = decimal bound
mark_numbers (Undelivered first end) = decimal first ++ codes "-" ++ decimal (end - 1)

abbrev pub json_mark_numbers : Mark → List ℕ
json_mark_numbers (End count) = decimal count
json_mark_numbers (Forgotten bound) = decimal bound
json_mark_numbers (Undelivered first end) =
    codes "[" ++ decimal first ++ codes "," ++ decimal (end - 1) ++ codes "]"

abbrev pub mark_text : (stream cpu : ℕ) → Mark → List ℕ
mark_text stream cpu mark = mark_name mark ++ space ∷ cpu_text stream cpu ++ space ∷ mark_numbers mark

abbrev pub json_mark : (stream cpu : ℕ) → Mark → List ℕ
json_mark stream cpu mark =
    json_cpu stream cpu ++ codes ",\"" ++ mark_name mark ++ codes "\":" ++ json_mark_numbers mark

abbrev pub piece_text : Packed → List ℕ
piece_text (parcel_piece stream parcel time contents) = parcel_text stream parcel
piece_text (mark_piece stream cpu mark) = mark_text stream cpu mark

abbrev pub json_piece : Packed → List ℕ
json_piece (parcel_piece stream parcel time contents) = json_parcel stream parcel
json_piece (mark_piece stream cpu mark) = json_mark stream cpu mark

-- ---- the line

abbrev pub piece_line : Form → (input at count : ℕ) → Packed → List ℕ
piece_line Text input at count piece =
    place_text input at count ++ space ∷ piece_text piece ++ line_feed ∷ []
piece_line Json input at count piece =
    codes "{" ++ json_place input at count ++ codes "," ++ json_piece piece ++ codes "}" ++ line_feed ∷ []
