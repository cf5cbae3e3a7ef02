-- What holds of the listing of losses.
use Rattle.std.specs.Prelude.{◌≡◌, ℕ, ◌<◌, ◌==◌, ◌&&◌, ◌||◌, not, nat_lt, nat_le, Bool, true, List, Some}
use Rattle.std.specs.List.{list_any}
use Rattle.trace_model.specs.Listing.{Line}
use Rattle.trace_model.specs.declared.limits.TheConstants.{MAX_CPUS}
use Rattle.capture.specs.Pages.{Damage}
use Rattle.capture.specs.declared.part.Part.{Part}
use Rattle.capture_text.specs.declared.form.Form.{Form}
use Rattle.capture_text.specs.Printing.{run_lines, unknown_lines, damaged_lines}
use Rattle.capture_text.specs.Selection.{Selected, is_marked}
use Rattle.capture_text.specs.Window.{unbounded, bound_by, listed_bound}
use Rattle.capture_text.specs.Listed.{is_run_listed, is_place_listed, listed_runs, listed_losses, listed_damages}

-- Of CPUs that are listed, and that have no record before the moments that are listed or after them, each loss is
-- listed.
pub record ListsEachLoss : Type 0 where
  pub runs : (form : Form) (all : List (List (ℕ × ℕ)))
      → listed_runs form (λ cpu. Some unbounded) all ≡ run_lines form all
  pub losses : (form : Form) (cpu : ℕ) (numbers : List ℕ)
      → listed_losses form (Some unbounded) cpu numbers ≡ unknown_lines form cpu numbers
  pub damages : (form : Form) (parts : List Part) (cpu : ℕ) (all : List Damage)
      → listed_damages form (Some unbounded) parts cpu all ≡ damaged_lines form parts cpu all

-- a record of the CPU is before the moments that are listed, and has a number for which this holds
abbrev pub is_before : Selected → (cpu : ℕ) → (ℕ → Bool) → Line → Bool
is_before selected cpu test line = line.cpu == cpu && (nat_lt line.moment selected.since && test line.number)

-- one is after them
abbrev pub is_after : Selected → (cpu : ℕ) → (ℕ → Bool) → Line → Bool
is_after selected cpu test line = line.cpu == cpu && (nat_lt selected.until line.moment && test line.number)

-- Of a CPU that is listed, losses are left out exactly if such a record shows that they aren't of these moments: a run
-- of missing numbers, if a record of the CPU with a greater number is before them, or one with a smaller number after
-- them; a loss of unknown number, or a damaged page, at a number, if the record of that number or of a greater one is
-- before them, or one with a smaller number after them.
pub record LeavesOut : Type 0 where
  pub runs : (selected : Selected) (cpu : ℕ) (lines : List Line) (run : ℕ × ℕ) → cpu < MAX_CPUS
      → is_marked selected.cpus cpu ≡ true
      → is_run_listed (listed_bound selected (λ c. bound_by selected c lines) cpu) run
      ≡ not (list_any (is_before selected cpu (λ n. nat_lt run.1 n)) lines
      || list_any (is_after selected cpu (λ n. nat_lt n run.0)) lines)
  pub places : (selected : Selected) (cpu : ℕ) (lines : List Line) (number : ℕ) → cpu < MAX_CPUS
      → is_marked selected.cpus cpu ≡ true
      → is_place_listed (listed_bound selected (λ c. bound_by selected c lines) cpu) number
      ≡ not (list_any (is_before selected cpu (λ n. nat_le number n)) lines
      || list_any (is_after selected cpu (λ n. nat_lt n number)) lines)
