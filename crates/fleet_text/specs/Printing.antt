-- The lines of a fleet: of its records, and of the runs of its numbers, as text or as JSON. docs/formats/program.md,
-- "Fleets".
use Rattle.std.specs.Prelude.{ℕ, List, [], ◌∷◌, ◌++◌, codes}
use Rattle.std.specs.Int.{w64, to_be_bytes}
use Rattle.std.specs.Fmt.{decimal}
use Rattle.text_model.specs.Text.{hex_text, line_feed, space}
use Rattle.text_values.specs.Digits.{pairs_of}
use Rattle.capture_text.specs.declared.form.Form.{Form}
use Rattle.capture_text.specs.declared.form.Form.TheVariants.{Text, Json}
use Rattle.fleet_collector.specs.Listing.{Line}
use Rattle.fleet_text.specs.declared.run.RunKind.{RunKind}
use Rattle.fleet_text.specs.declared.run.RunKind.TheVariants.{Missing, Unknown, Undelivered, Forgotten}
use Rattle.fleet_text.specs.Runs.{Run}

-- a stream's id: 16 hexadecimal digits in lower case, two for each of its bytes, the highest byte first
unfoldable pub id_text : ℕ → List ℕ
id_text stream = pairs_of (to_be_bytes w64 stream)

-- a CPU of a stream
abbrev pub cpu_text : (stream cpu : ℕ) → List ℕ
cpu_text stream cpu = id_text stream ++ codes ":" ++ decimal cpu

-- the members of an object for a CPU of a stream
abbrev pub json_cpu : (stream cpu : ℕ) → List ℕ
json_cpu stream cpu = codes "\"stream\":\"" ++ id_text stream ++ codes "\",\"cpu\":" ++ decimal cpu

-- ---- records

abbrev pub record_line : Form → Line → List ℕ
record_line Text line =
    cpu_text line.stream line.cpu ++ space ∷ decimal line.number ++ space ∷ decimal line.moment
    ++ space ∷ hex_text line.bytes ++ line_feed ∷ []
record_line Json line =
    codes "{" ++ json_cpu line.stream line.cpu ++ codes ",\"number\":" ++ decimal line.number
    ++ codes ",\"time\":" ++ decimal line.moment ++ codes ",\"data\":\"" ++ pairs_of line.bytes ++ codes "\"}"
    ++ line_feed ∷ []

-- ---- runs of numbers

abbrev pub kind_name : RunKind → List ℕ
kind_name Missing = codes "missing"
kind_name Unknown = codes "unknown"
kind_name Undelivered = codes "undelivered"
kind_name Forgotten = codes "forgotten"

-- by what its numbers are called
abbrev pub run_line : Form → (name : List ℕ) → Run → List ℕ
run_line Text name run =
    name ++ space ∷ cpu_text run.stream run.cpu ++ space ∷ decimal run.first
    ++ codes "-" ++ decimal run.last ++ line_feed ∷ []
run_line Json name run =
    codes "{" ++ json_cpu run.stream run.cpu ++ codes ",\"" ++ name ++ codes "\":[" ++ decimal run.first
    ++ codes "," ++ decimal run.last ++ codes "]}" ++ line_feed ∷ []
