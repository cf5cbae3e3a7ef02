-- What is listed of a collection: the lines of a selection's records, and of the losses that may be of its moments.
use Rattle.std.specs.Prelude.{ℕ, Bool, false, ◌&&◌, if◌then◌else◌, List, [], flat_map, Option, Some, None}
use Rattle.std.specs.List.{enumerate_from}
use Rattle.trace_model.specs.Listing.{Line}
use Rattle.capture.specs.Pages.{Damage}
use Rattle.capture.specs.declared.part.Part.{Part}
use Rattle.capture.specs.declared.pages.Damaged.{Damaged}
use Rattle.capture_text.specs.declared.form.Form.{Form}
use Rattle.capture_text.specs.Printing.{Detail, record_line, is_line_cut, run_line, unknown_line, damage_line}
use Rattle.capture_text.specs.Printing.{late_line, reported_line}
use Rattle.capture_text.specs.Selection.{Selected, is_selected}
use Rattle.capture_text.specs.Window.{KnownBound, has_run, has_place}

-- a record's line, if it is listed
abbrev pub listed_line : Form → Detail → Selected → Line → List ℕ
listed_line form detail selected line = if is_selected selected line then record_line form detail line else []

-- that a record comes late, if it is listed
abbrev pub listed_late : Form → Selected → Line → List ℕ
listed_late form selected line = if is_selected selected line then late_line form line.cpu line.number else []

-- whether a field is in a line that is listed, and has no value in the payload
abbrev pub is_listed_cut : Detail → Selected → Line → Bool
is_listed_cut detail selected line = is_selected selected line && is_line_cut detail line

-- whether a run of missing records of a CPU is listed, and records that were lost before a number; the CPU is listed if
-- it has a bound
abbrev pub is_run_listed : Option KnownBound → ℕ × ℕ → Bool
is_run_listed None run = false
is_run_listed (Some bound) run = has_run bound run

abbrev pub is_place_listed : Option KnownBound → ℕ → Bool
is_place_listed None number = false
is_place_listed (Some bound) number = has_place bound number

-- the line of a run, if it is listed
abbrev pub listed_run : Form → Option KnownBound → (cpu : ℕ) → ℕ × ℕ → List ℕ
listed_run form bound cpu run = if is_run_listed bound run then run_line form cpu run else []

-- the runs that are listed of each CPU, by rising CPU
abbrev pub listed_runs : Form → (bounds : ℕ → Option KnownBound) → List (List (ℕ × ℕ)) → List ℕ
listed_runs form bounds runs =
    flat_map (λ of_cpu. flat_map (listed_run form (bounds of_cpu.0) of_cpu.0) of_cpu.1) (enumerate_from 0 runs)

-- the line of a loss of unknown number, if it is listed
abbrev pub listed_loss : Form → Option KnownBound → (cpu number : ℕ) → List ℕ
listed_loss form bound cpu number = if is_place_listed bound number then unknown_line form cpu number else []

abbrev pub listed_losses : Form → Option KnownBound → (cpu : ℕ) → (numbers : List ℕ) → List ℕ
listed_losses form bound cpu numbers = flat_map (listed_loss form bound cpu) numbers

-- the line of a damaged page, if it is listed
abbrev pub listed_damage : Form → Option KnownBound → List Part → (cpu : ℕ) → Damage → List ℕ
listed_damage form bound parts cpu damage =
    if is_place_listed bound damage.number then damage_line form parts cpu damage else []

abbrev pub listed_damages : Form → Option KnownBound → List Part → (cpu : ℕ) → List Damage → List ℕ
listed_damages form bound parts cpu damages = flat_map (listed_damage form bound parts cpu) damages

-- the line of a damaged page as it is answered, if it is listed
abbrev pub listed_page : Form → Option KnownBound → List Part → (cpu : ℕ) → Damaged → List ℕ
listed_page form bound parts cpu damaged =
    if is_place_listed bound damaged.number.0 then reported_line form parts cpu damaged else []
