-- Which losses are of the moments that are listed.
use Rattle.std.specs.Prelude.{ℕ, ◌==◌, ◌&&◌, not, nat_lt, nat_le, max, min, Bool, false, if◌then◌else◌}
use Rattle.std.specs.Prelude.{List, fold, Option, Some, None, option_map, slice_get}
use Rattle.trace_model.specs.declared.limits.TheConstants.{MAX_CPUS}
use Rattle.trace_model.specs.Listing.{Line}
use Rattle.capture_text.specs.declared.window.Bound.{Bound}
use Rattle.capture_text.specs.declared.window.Window.{Window}
use Rattle.capture_text.specs.Selection.{Selected, is_marked}

-- the greater number, and the smaller one
abbrev pub later : Option ℕ → ℕ → Option ℕ
later None number = Some number
later (Some known) number = Some (max known number)

abbrev pub earlier : Option ℕ → ℕ → Option ℕ
earlier None number = Some number
earlier (Some known) number = Some (min known number)

-- what is known of a CPU: the greatest number of a record before the moments that are listed, and the smallest number
-- of one after them
pub record KnownBound : Type 0 where
  pub before : Option ℕ
  pub after : Option ℕ

abbrev pub unbounded : KnownBound
unbounded = record { before = None; after = None }

-- what an answer says
abbrev pub bound_seen : Bound → KnownBound
bound_seen bound = record { before = option_map (λ n. n.0) bound.before; after = option_map (λ n. n.0) bound.after }

-- what is known of no CPU, or of one
abbrev pub bound_or_none : Option Bound → KnownBound
bound_or_none None = unbounded
bound_or_none (Some bound) = bound_seen bound

-- what is known of this CPU
abbrev pub bound_at : Window → (cpu : ℕ) → KnownBound
bound_at window cpu = bound_or_none (slice_get window.of_cpus cpu)

-- one record more of the CPU is known
abbrev pub noted : Selected → KnownBound → Line → KnownBound
noted selected bound line = record {
  before = if nat_lt line.moment selected.since then later bound.before line.number else bound.before;
  after = if nat_lt selected.until line.moment then earlier bound.after line.number else bound.after;
}

-- the same, if the record is one of this CPU, and of a CPU that there can be
abbrev pub noted_of : Selected → (cpu : ℕ) → KnownBound → Line → KnownBound
noted_of selected cpu bound line =
    if line.cpu == cpu && nat_lt cpu MAX_CPUS then noted selected bound line else bound

-- What is known of a CPU by all lines.
abbrev pub bound_by : Selected → (cpu : ℕ) → List Line → KnownBound
bound_by selected cpu lines = fold (noted_of selected cpu) unbounded lines

abbrev pub is_below : (number : ℕ) → Option ℕ → Bool
is_below number None = false
is_below number (Some known) = nat_lt number known

abbrev pub is_above : (number : ℕ) → Option ℕ → Bool
is_above number None = false
is_above number (Some known) = nat_lt known number

abbrev pub is_up_to : (number : ℕ) → Option ℕ → Bool
is_up_to number None = false
is_up_to number (Some known) = nat_le number known

-- A run of missing records may be of these moments: no record after it is before them, and none before it after them.
abbrev pub has_run : KnownBound → ℕ × ℕ → Bool
has_run bound run = not (is_below run.1 bound.before) && not (is_above run.0 bound.after)

-- Records that were lost before this number may be.
abbrev pub has_place : KnownBound → ℕ → Bool
has_place bound number = not (is_up_to number bound.before) && not (is_above number bound.after)

-- what is known of a CPU, if it is listed
abbrev pub listed_bound : Selected → (bounds : ℕ → KnownBound) → (cpu : ℕ) → Option KnownBound
listed_bound selected bounds cpu = if is_marked selected.cpus cpu then Some (bounds cpu) else None
