-- What is known of CPUs after events: which lines can still come.
use Rattle.std.specs.Prelude.{◌≡◌, true, false, ℕ, ◌<◌, ◌≤◌, ◌⊎◌, max, List, [], ◌∷◌, length, slice_set}
use Rattle.std.specs.Prelude.{Bool, slice_index_or}
use Rattle.std.specs.List.{list_any}
use Rattle.line_follower.specs.declared.lines.Place.{Place}
use Rattle.line_follower.specs.declared.lines.Line.{Line}
use Rattle.line_follower.specs.declared.bounds.Progress.{Progress}

-- a page of a CPU was read, with these lines; nothing came of a CPU for a round; a CPU ended
pub data Event (T : Type 0) : Type 0 where
  page : (cpu : ℕ) → (lines : List (Line T)) → Event T
  quiet : (cpu : ℕ) → Event T
  ended : (cpu : ℕ) → Event T

-- how far each CPU is, and the greatest moment of all
pub record Known : Type 0 where
  pub cpus : List Progress
  pub greatest : ℕ

-- the greatest of a moment and those of lines
abbrev pub greatest_of : {T : Type 0} → ℕ → List (Line T) → ℕ
greatest_of least [] = least
greatest_of least (line ∷ lines) = greatest_of (max least line.place.moment.0) lines

-- of a CPU of which nothing is known
abbrev pub unknown : Progress
unknown = record { bound = record { 0 = 0 }; seen = record { 0 = 0 }; is_open = true }

-- how far a CPU is once these lines were read of it
abbrev pub read_by : {T : Type 0} → List (Line T) → Progress → Progress
read_by lines progress = record progress { bound = record { 0 = greatest_of progress.bound.0 lines } }

-- Nothing came of a CPU for a round, and this is the greatest moment of all until then: its lines from before the last
-- such round have been read.
abbrev pub quiet_by : ℕ → Progress → Progress
quiet_by greatest progress = record progress {
  bound = record { 0 = max progress.bound.0 progress.seen.0 };
  seen = record { 0 = greatest };
}

-- a CPU ended
abbrev pub ended_by : Progress → Progress
ended_by progress = record progress { is_open = false }

-- how far all are once this is how far the CPU is
abbrev pub with_cpu : List Progress → ℕ → (Progress → Progress) → List Progress
with_cpu cpus cpu change = slice_set cpus cpu (change (slice_index_or cpus cpu unknown))

-- what is known after an event
abbrev pub known_after : {T : Type 0} → Known → Event T → Known
known_after known (page cpu lines) = record {
  cpus = with_cpu known.cpus cpu (read_by lines);
  greatest = greatest_of known.greatest lines;
}
known_after known (quiet cpu) = record known { cpus = with_cpu known.cpus cpu (quiet_by known.greatest) }
known_after known (ended cpu) = record known { cpus = with_cpu known.cpus cpu ended_by }

-- the place isn't after what can still come of a CPU that is this far
abbrev pub IsUpTo : Place → (moment cpu : ℕ) → Type 0
IsUpTo place moment cpu = (place.moment.0 < moment) ⊎ ((place.moment.0 ≡ moment) × (place.cpu.0 ≤ cpu))

-- nothing that can still come of an open CPU belongs before a line at this place
abbrev pub IsFinal : List Progress → Place → Type 0
IsFinal cpus place = (cpu : ℕ)
    → cpu < length cpus
    → (d : Progress)
    → (slice_index_or cpus cpu d).is_open ≡ true
    → IsUpTo place (slice_index_or cpus cpu d).bound.0 cpu

-- whether a CPU is open
abbrev pub is_any_open : List Progress → Bool
is_any_open cpus = list_any (λ progress. progress.is_open) cpus
