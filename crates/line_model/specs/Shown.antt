-- What is printed of a script, by the accounts of its CPUs alone: which records, under which numbers, and which numbers
-- are missing. docs/THEOREM.md.
use Rattle.std.specs.Prelude.{◌≡◌, ℕ, ◌<◌, ◌↔◌, IsTrue, Bool, if◌then◌else◌, List, [], ◌∷◌, ◌++◌, length, flat_map}
use Rattle.std.specs.Prelude.{Some, All, Contains, slice_index_or}
use Rattle.std.specs.Char.{is_digit}
use Rattle.std.specs.List.{slice_get, AllZip}
use Rattle.trace_model.specs.History.{committed_records}
use Rattle.trace_model.specs.Window.{RingEvent, history_events_of}
use Rattle.trace_model.specs.Runs.{AreRuns}
use Rattle.trace_model.specs.Listing.{Line, IsTimeOrdered}
use Rattle.ring_model.specs.RunsAsEvents.{fills_taken}
use Rattle.text_model.specs.Script.{deliver, Script}
use Rattle.text_model.specs.Text.{line_feed}
use Rattle.world_model.specs.GenuineWorlds.{StandsIn, IsOverwrittenBefore}
use Rattle.world_model.specs.Printing.{Shown, printed_collectors}
use Rattle.line_model.specs.Accounts.{CpuState, IsAccount}

-- What is shown of a collector, by the fills that were delivered to it, each with its CPU. A line is a committed
-- record of one of these fills, under its own CPU and number, and each such record has its line. The runs of a CPU are
-- those of the numbers that were overwritten unread before one of these fills.
pub record IsShownOf (start : ℕ) (events : ℕ → List RingEvent) (fills : List (ℕ × ℕ)) (shown : Shown) : Type 0 where
  pub ordered : IsTimeOrdered shown.lines
  pub lines : (line : Line)
      → Contains shown.lines line
      ↔ ((slice_get (committed_records (history_events_of (events line.cpu))) line.number
      ≡ Some record { moment = line.moment; bytes = line.bytes })
      × (fill : ℕ)
      × Contains fills (line.cpu, fill)
      × StandsIn (history_events_of (events line.cpu)) start fill line.number)
  pub missing : (cpu : ℕ)
      → AreRuns (λ number. (fill : ℕ)
      × Contains fills (cpu, fill)
      × IsOverwrittenBefore start (events cpu) fill number)
      (slice_index_or shown.runs cpu [])

-- A line of the log, without its end. Of what it says nothing is said here; but it begins with a digit, as no line does
-- that names a collector, so where the log ends can be seen.
pub record IsLogLine (line : List ℕ) : Type 0 where
  pub first : ℕ
  pub begins : slice_get line 0 ≡ Some first
  pub digit : IsTrue (is_digit first 10)
  pub one_line : Contains line line_feed → ⊥

-- These bytes are the collectors of the script, each as it is shown; before them, if it is asked for, lines of a log.
-- Of each CPU there is an account: `states cpu k` is that CPU after the first k lines. A fill is delivered to a
-- collector exactly if a line of the script delivers it, before which it was taken.
pub record IsAccounted (script : Script) (asked : Bool) (bytes : List ℕ) : Type 0 where
  pub states : (cpu lines : ℕ) → CpuState
  pub accounts : (cpu : ℕ) → cpu < script.cpus → IsAccount script cpu (states cpu)
  pub fills : List (List (ℕ × ℕ))
  pub collectors : length fills ≡ script.collectors
  pub delivered : (collector cpu fill : ℕ) (own : List (ℕ × ℕ))
      → slice_get fills collector ≡ Some own
      → Contains own (cpu, fill)
      ↔ ((k line : ℕ)
      × (slice_get script.commands k ≡ Some (line, deliver collector cpu fill))
      × Contains (fills_taken script.start (states cpu k).events) fill)
  pub shown : List Shown
  pub each : AllZip (IsShownOf script.start (λ cpu. (states cpu (length script.commands)).events)) fills shown
  pub log : List (List ℕ)
  pub logged : All IsLogLine log
  pub printed : bytes
      ≡ (if asked then flat_map (λ line. line ++ line_feed ∷ []) log else []) ++ printed_collectors shown
