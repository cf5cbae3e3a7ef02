-- What the lines of a script text and their fields spell, whichever commands there are; the lines of a header.
-- After docs/formats/program.md, "Script".
use Rattle.std.specs.Prelude.{◌≡◌, ℕ, ◌%◌, ⊤, Bool, false, not, ◌&&◌, if◌then◌else◌, ◌==◌, nat_lt, nat_le, List, []}
use Rattle.std.specs.Prelude.{◌∷◌, ◌++◌, length, drop, filter, codes, bytes_eq, decimal, Result, Ok, Err}
use Rattle.std.specs.List.{enumerate_from}
use Rattle.std.specs.Str.{all_ascii_digits}
use Rattle.std.specs.Str.Parse.{digits_value}
use Rattle.text_model.specs.Text.{lines_of, fields_of, is_well_spaced, is_decimal, is_hex, bytes_of_pairs}
use Rattle.trace_model.specs.declared.limits.TheConstants.{MIN_PAGES, MAX_PAGES, MIN_SIZE, MAX_SIZE}
use Rattle.text_model.specs.declared.script_limits.TheConstants.{SIZE_STEP}

-- What is wrong with a line. bad_line: its spaces, its word, that another line of the header is due, how
-- many fields it has, or a field that is to name a CPU and doesn't. bad_number, bad_hex: a field that is no
-- number, or no bytes. out_of_range: a number outside its limits.
pub data LineFault : Type 0 where
  bad_line bad_number bad_hex out_of_range : LineFault

-- the one after the other: the first fault is what counts
infixl 10 ◌>>=◌
abbrev pub ◌>>=◌ : {A B E : Type 0} → Result A E → (A → Result B E) → Result B E
(Ok x) >>= f = f x
(Err e) >>= f = Err e

-- the number that a field spells
unfoldable pub decimal_in : List ℕ → Result ℕ LineFault
decimal_in field = if is_decimal field then Ok (digits_value 10 field) else Err bad_number

-- the bytes that a field spells
unfoldable pub payload_in : List ℕ → Result (List ℕ) LineFault
payload_in field = if is_hex field then Ok (bytes_of_pairs field) else Err bad_hex

-- the number that a field spells, which is to be below a limit
unfoldable pub number_below : ℕ → List ℕ → Result ℕ LineFault
number_below limit field = decimal_in field >>= λ n. if nat_lt n limit then Ok n else Err out_of_range

-- the letter that begins a CPU's name
abbrev pub cpu_letter : ℕ
cpu_letter = 99

-- the letter and one digit or more, and nothing else
abbrev pub names_cpu : List ℕ → Bool
names_cpu [] = false
names_cpu (letter ∷ digits) = (letter == cpu_letter) && nat_lt 0 (length digits) && all_ascii_digits digits

-- the CPU that a field names, out of this number of CPUs
unfoldable pub cpu_in : ℕ → List ℕ → Result ℕ LineFault
cpu_in cpus field = if names_cpu field then number_below cpus (drop 1 field) else Err bad_line

-- a line of the header: its word, and the values that it may have, multiples of a step
pub record Setting : Type 0 where
  pub word : List ℕ
  pub min : ℕ
  pub max : ℕ
  pub step : ℕ

-- the pages of a ring
abbrev pub pages_setting : Setting
pages_setting = record { word = codes "pages"; min = MIN_PAGES; max = MAX_PAGES; step = 1 }

-- the data size of a page, in bytes
abbrev pub size_setting : Setting
size_setting = record { word = codes "size"; min = MIN_SIZE; max = MAX_SIZE; step = SIZE_STEP }

-- a value that this setting may have
abbrev pub allowed_for : Setting → ℕ → Result ℕ LineFault
allowed_for s n = if nat_le s.min n && nat_le n s.max && (n % s.step == 0) then Ok n else Err out_of_range

-- the value that fields give to this setting: two of them, its word and a number
unfoldable pub value_of : Setting → List (List ℕ) → Result ℕ LineFault
value_of s (word ∷ number ∷ []) = if bytes_eq word s.word then (decimal_in number >>= allowed_for s) else Err bad_line
value_of s _ = Err bad_line

-- the value that a line gives to this setting: its spaces are looked at first
unfoldable pub value_in : Setting → List ℕ → Result ℕ LineFault
value_in s line = if is_well_spaced (fields_of line) then value_of s (fields_of line) else Err bad_line

-- the byte that begins a comment, `#`
abbrev pub comment_mark : ℕ
comment_mark = 35

-- a significant line: it is neither empty nor a comment
abbrev pub is_significant : List ℕ → Bool
is_significant [] = false
is_significant (b ∷ line) = not (b == comment_mark)

-- a line with its number
abbrev pub NumberedLine : Type 0
NumberedLine = ℕ × List ℕ

-- the significant lines of a text, each with its number among all lines of the text, from 1
abbrev pub significant_lines : List ℕ → List NumberedLine
significant_lines text = filter (λ line. is_significant line.1) (enumerate_from 1 (lines_of text))

-- these lines give these settings these values, one by one
abbrev pub GiveSettings : List NumberedLine → List Setting → List ℕ → Type 0
GiveSettings [] [] [] = ⊤
GiveSettings (line ∷ lines) (s ∷ settings) (value ∷ values) =
    (value_in s line.1 ≡ Ok value) × GiveSettings lines settings values
GiveSettings _ _ _ = ⊥

-- Of these settings, the lines before this one give the first, and this one not the next.
pub record IsFaultySetting (settings : List Setting) (lines : List NumberedLine)
    (number : ℕ) (fault : LineFault)
    : Type 0 where
  pub front : List NumberedLine
  pub line : List ℕ
  pub behind : List NumberedLine
  pub cut : lines ≡ front ++ (number, line) ∷ behind
  pub given : List Setting
  pub setting : Setting
  pub others : List Setting
  pub order : settings ≡ given ++ setting ∷ others
  pub values : List ℕ
  pub fits : GiveSettings front given values
  pub fails : value_in setting line ≡ Err fault

-- Of these settings, the lines give the first, and not all.
pub record IsMissingSetting (settings : List Setting) (lines : List NumberedLine) : Type 0 where
  pub given : List Setting
  pub setting : Setting
  pub others : List Setting
  pub order : settings ≡ given ++ setting ∷ others
  pub values : List ℕ
  pub fits : GiveSettings lines given values

-- the name of a fault
abbrev pub fault_name : LineFault → List ℕ
fault_name bad_line = codes "BadLine"
fault_name bad_number = codes "BadNumber"
fault_name bad_hex = codes "BadHex"
fault_name out_of_range = codes "OutOfRange"

-- how a fault of a line is printed, the end of the line aside
abbrev pub fault_text : ℕ → LineFault → List ℕ
fault_text number fault = codes "line " ++ decimal number ++ codes ": " ++ fault_name fault
