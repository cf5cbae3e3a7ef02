-- The lines of a collection: of its records, of its missing runs, of losses of unknown number, and of damaged pages, as
-- text or as JSON. docs/formats/program.md, "Captures".
use Rattle.std.specs.Prelude.{ℕ, ℤ, pos, negsuc, ◌+◌, ◌-◌, ◌*◌, ◌==◌, nat_lt, Bool, false, if◌then◌else◌, List, []}
use Rattle.std.specs.Prelude.{◌∷◌, ◌++◌, flat_map, codes, Option, Some, None}
use Rattle.std.specs.Option.{option_map}
use Rattle.std.specs.Int.{div_ceil}
use Rattle.std.specs.Fmt.{decimal}
use Rattle.std.specs.List.{enumerate_from}
use Rattle.trace_model.specs.Listing.{Line}
use Rattle.trace_dat.specs.Contents.{EventFormat}
use Rattle.text_model.specs.Text.{hex_text, line_feed, space}
use Rattle.text_model.specs.Printing.{image_fault_text}
use Rattle.text_values.specs.Digits.{pairs_of}
use Rattle.world_model.specs.Printing.{printed_line, printed_missing, printed_runs}
use Rattle.trace_dat.specs.kernel_texts.Names.{Event, event_of}
use Rattle.trace_dat.specs.kernel_texts.FirstBytes.{common_fields_in}
use Rattle.dump_command.specs.ImageFaults.{reader_fault_text}
use Rattle.capture.specs.Pages.{Damage}
use Rattle.capture.specs.declared.pages.Damaged.{Damaged}
use Rattle.capture.specs.declared.part.Part.{Part}
use Rattle.capture_text.specs.declared.form.Form.{Form}
use Rattle.capture_text.specs.declared.form.Form.TheVariants.{Text, Json}
use Rattle.capture_text.specs.Names.{named_part, json_named}
use Rattle.kernel_names.specs.Symbols.{name_by}
use Rattle.kernel_names.specs.SymbolNames.{name_up_to}
use Rattle.kernel_names.specs.Tasks.{task_by}
use Rattle.capture_text.specs.Beside.{FieldNaming}
use Rattle.capture_text.specs.Fielded.{is_cut, fielded_part, json_fielded}

-- ---- records

-- a record's line with what its event is
abbrev pub named_line : (ℕ → Option Event) → (ℤ → Option (List ℕ)) → Line → List ℕ
named_line event_by task_by line =
    decimal line.cpu ++ space ∷ decimal line.number ++ space ∷ decimal line.moment
    ++ space ∷ named_part event_by task_by line.bytes (common_fields_in line.bytes)
    ++ space ∷ hex_text line.bytes ++ line_feed ∷ []

-- a record's line as JSON, with what `named` says of its event
abbrev pub json_line : (named : List ℕ) → Line → List ℕ
json_line named line =
    codes "{\"cpu\":" ++ decimal line.cpu ++ codes ",\"number\":" ++ decimal line.number
    ++ codes ",\"time\":" ++ decimal line.moment ++ named ++ codes ",\"data\":\"" ++ pairs_of line.bytes ++ codes "\"}"
    ++ line_feed ∷ []

-- a record's line with the fields of its event
abbrev pub fielded_line : FieldNaming → (ℕ → Option Event) → (ℤ → Option (List ℕ)) → Line → List ℕ
fielded_line naming event_by task_by line =
    decimal line.cpu ++ space ∷ decimal line.number ++ space ∷ decimal line.moment
    ++ space ∷ fielded_part naming event_by task_by line.bytes (common_fields_in line.bytes) ++ line_feed ∷ []

-- the same as JSON
abbrev pub json_fielded_line : FieldNaming → (ℕ → Option Event) → (ℤ → Option (List ℕ)) → Line → List ℕ
json_fielded_line naming event_by task_by line =
    codes "{\"cpu\":" ++ decimal line.cpu ++ codes ",\"number\":" ++ decimal line.number
    ++ codes ",\"time\":" ++ decimal line.moment
    ++ json_fielded naming event_by task_by line.bytes (common_fields_in line.bytes) ++ codes "}" ++ line_feed ∷ []

-- What names numbers: the lines of the kernel's list of processes, if their names are printed; whether the tables of
-- the formats name the numbers of fields; and the lines of the kernel's list of symbols, if functions are printed.
pub record NameTexts : Type 0 where
  pub tasks : Option (List (List ℕ))
  pub tables : Bool
  pub symbols : Option (List (List ℕ))

-- the name of a process by such lines
abbrev pub task_in_lines : Option (List (List ℕ)) → ℤ → Option (List ℕ)
task_in_lines None pid = None
task_in_lines (Some lines) (pos pid) = task_by pid lines
task_in_lines (Some lines) (negsuc n) = None

-- what names the numbers of fields by such lines
abbrev pub naming_by : NameTexts → FieldNaming
naming_by texts = record {
  tables = texts.tables;
  functions = option_map (λ lines address. name_up_to (λ a. name_by a lines) address) texts.symbols;
}

-- What a line says of its record besides the numbers: its payload; what its event is by these formats, and the payload;
-- or what its event is and the fields that its format describes; and the names that numbers have by these texts.
pub data Detail : Type 0 where
  bare : Detail
  named : List EventFormat → (tasks : Option (List (List ℕ))) → Detail
  fielded : List EventFormat → NameTexts → Detail

-- A record's line, in this detail.
abbrev pub record_line : Form → Detail → Line → List ℕ
record_line Text bare line = printed_line line
record_line Text (named formats tasks) line = named_line (λ id. event_of id formats) (task_in_lines tasks) line
record_line Text (fielded formats texts) line =
    fielded_line (naming_by texts) (λ id. event_of id formats) (task_in_lines texts.tasks) line
record_line Json bare line = json_line [] line
record_line Json (named formats tasks) line =
    json_line (json_named (λ id. event_of id formats) (task_in_lines tasks) line.bytes (common_fields_in line.bytes))
    line
record_line Json (fielded formats texts) line =
    json_fielded_line (naming_by texts) (λ id. event_of id formats) (task_in_lines texts.tasks) line

-- Whether a field is in the line that has no value in the payload.
abbrev pub is_line_cut : Detail → Line → Bool
is_line_cut bare line = false
is_line_cut (named formats tasks) line = false
is_line_cut (fielded formats texts) line =
    is_cut (λ id. event_of id formats) line.bytes (common_fields_in line.bytes)

-- ---- missing runs

-- a run of missing numbers of a CPU: the first and the last
abbrev pub json_missing : ℕ → ℕ × ℕ → List ℕ
json_missing cpu run =
    codes "{\"cpu\":" ++ decimal cpu ++ codes ",\"missing\":[" ++ decimal run.0 ++ codes "," ++ decimal run.1
    ++ codes "]}" ++ line_feed ∷ []

abbrev pub run_line : Form → (cpu : ℕ) → ℕ × ℕ → List ℕ
run_line Text cpu run = printed_missing cpu run
run_line Json cpu run = json_missing cpu run

-- the missing runs of each CPU, by rising CPU
abbrev pub run_lines : Form → List (List (ℕ × ℕ)) → List ℕ
run_lines Text runs = printed_runs runs
run_lines Json runs = flat_map (λ of_cpu. flat_map (json_missing of_cpu.0) of_cpu.1) (enumerate_from 0 runs)

-- ---- losses of unknown number

-- at this number of a CPU records were lost, one at least
abbrev pub unknown_line : Form → (cpu number : ℕ) → List ℕ
unknown_line Text cpu number = codes "unknown " ++ decimal cpu ++ space ∷ decimal number ++ line_feed ∷ []
unknown_line Json cpu number =
    codes "{\"cpu\":" ++ decimal cpu ++ codes ",\"unknown\":" ++ decimal number ++ codes "}" ++ line_feed ∷ []

abbrev pub unknown_lines : Form → (cpu : ℕ) → (numbers : List ℕ) → List ℕ
unknown_lines form cpu numbers = flat_map (unknown_line form cpu) numbers

-- ---- records that come late

-- the record of this number of a CPU comes later than its place in the order: one was printed that belongs after it
abbrev pub late_line : Form → (cpu number : ℕ) → List ℕ
late_line Text cpu number = codes "late " ++ decimal cpu ++ space ∷ decimal number ++ line_feed ∷ []
late_line Json cpu number =
    codes "{\"cpu\":" ++ decimal cpu ++ codes ",\"late\":" ++ decimal number ++ codes "}" ++ line_feed ∷ []

-- ---- damaged pages

-- how many pages a part has, of which the last may be shorter; none, if they have no size
abbrev pub page_count : Part → ℕ
page_count part = if part.size == 0 then 0 else div_ceil part.length part.size

-- the place of the first byte of the page at this index, counted over the parts, in the bytes of all parts
abbrev pub offset_of : List Part → (index : ℕ) → ℕ
offset_of [] index = 0
offset_of (part ∷ parts) index =
    if nat_lt index (page_count part) then part.size * index
    else part.length + offset_of parts (index - page_count part)

-- a page of a CPU can't be read: how many numbers are before it, its index, its offset, and what is wrong
abbrev pub damaged_line : Form → (cpu number index offset : ℕ) → (fault : List ℕ) → List ℕ
damaged_line Text cpu number index offset fault =
    codes "damaged " ++ decimal cpu ++ space ∷ decimal number ++ codes " page " ++ decimal index
    ++ codes " byte " ++ decimal offset ++ codes ": " ++ fault ++ line_feed ∷ []
damaged_line Json cpu number index offset fault =
    codes "{\"cpu\":" ++ decimal cpu ++ codes ",\"damaged\":" ++ decimal number ++ codes ",\"page\":" ++ decimal index
    ++ codes ",\"byte\":" ++ decimal offset ++ codes ",\"fault\":\"" ++ fault ++ codes "\"}" ++ line_feed ∷ []

abbrev pub damage_line : Form → List Part → (cpu : ℕ) → Damage → List ℕ
damage_line form parts cpu damage =
    damaged_line form cpu damage.number damage.index (offset_of parts damage.index) (image_fault_text damage.cause)

abbrev pub damaged_lines : Form → List Part → (cpu : ℕ) → List Damage → List ℕ
damaged_lines form parts cpu damages = flat_map (damage_line form parts cpu) damages

-- the line of a damaged page as it is answered
abbrev pub reported_line : Form → List Part → (cpu : ℕ) → Damaged → List ℕ
reported_line form parts cpu damaged =
    damaged_line form cpu damaged.number.0 damaged.page (offset_of parts damaged.page) (reader_fault_text damaged.fault)
