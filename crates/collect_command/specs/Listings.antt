-- What is printed of captures.
use Rattle.std.specs.Prelude.{◌≡◌, ℕ, suc, ◌-◌, ◌^◌, min, Bool, true, false, not, ◌&&◌, if◌then◌else◌, ⊤}
use Rattle.std.specs.Prelude.{List, [], ◌∷◌, ◌++◌, map}
use Rattle.std.specs.Prelude.{flat_map, count_by, length, slice_index_or, Option, Some, None}
use Rattle.std.specs.List.{list_any}
use Rattle.std.specs.Option.{option_map}
use Rattle.trace_model.specs.Listing.{Line}
use Rattle.trace_dat.specs.Contents.{EventFormat}
use Rattle.trace_dat.specs.kernel_texts.Names.{HasEvents, event_of}
use Rattle.trace_dat.specs.declared.kernel_texts.counters.Counters.{Counters}
use Rattle.event_fields.specs.Malformed.{Malformed, malformed_seen, malformed_events}
use Rattle.event_fields.specs.declared.malformed.MalformedEvent.{MalformedEvent}
use Rattle.world_model.specs.Printing.{Shown}
use Rattle.command_io.specs.Written.{IsTextWritten}
use Rattle.capture.specs.Pages.{Page, unknown_from, damages_from}
use Rattle.capture.specs.Rings.{parcels_of_captures}
use Rattle.collector_text.specs.Prints.{IsPrintOf}
use Rattle.capture.specs.files.Files.{ModelPart, parts_of_cpu}
use Rattle.capture.specs.files.Captures.{measured}
use Rattle.capture.specs.declared.files.captured.CpuCapture.{CpuCapture}
use Rattle.capture.specs.declared.files.captured.CutFile.{CutFile}
use Rattle.capture.specs.declared.files.fault.FileFault.TheVariants.{Format}
use Rattle.capture.specs.files.Losses.{are_intact}
use Rattle.capture_text.specs.declared.form.Form.{Form}
use Rattle.capture_text.specs.declared.naming.Naming.{Naming}
use Rattle.capture_text.specs.Printing.{Detail as LineDetail, bare, named, fielded}
use Rattle.capture_text.specs.declared.sums.RingLosses.{RingLosses}
use Rattle.capture_text.specs.Lent.{tasks_lent, symbols_lent}
use Rattle.capture_text.specs.LossSums.{missing_count, listed_sum}
use Rattle.capture_text.specs.Selection.{Selected}
use Rattle.capture_text.specs.Window.{KnownBound, bound_by, listed_bound}
use Rattle.capture_text.specs.Listed.{listed_line, is_listed_cut, listed_runs, listed_losses, listed_damages}
use Rattle.capture_text.specs.Printed.{IsDetail, AreTasks, AreSymbols}
use Rattle.collect_command.specs.Patterns.{marks_of}
use Rattle.collect_command.specs.declared.collect.Detail.{Detail}
use Rattle.collect_command.specs.declared.collect.Texts.{Texts}
use Rattle.collect_command.specs.declared.collect.Detail.TheVariants.{Payload, Names, Fields}
use Rattle.collect_command.specs.declared.ending.Listed.{Listed}
use Rattle.collect_command.specs.declared.ending.Ending.{Ending}
use Rattle.collect_command.specs.declared.ending.Ending.TheVariants.{Done, Damaged, MalformedFile, NotWritten}
use Rattle.collect_command.specs.Faults.{fault_line}

-- what is known of each CPU that is listed, by these lines
abbrev pub bounds_by : Selected → List Line → (cpu : ℕ) → Option KnownBound
bounds_by selected lines cpu = listed_bound selected (λ c. bound_by selected c lines) cpu

-- the losses of unknown number of each CPU, from this one on
abbrev pub all_unknown : Form → (bounds : ℕ → Option KnownBound) → (cpu : ℕ) → List (List Page) → List ℕ
all_unknown form bounds cpu [] = []
all_unknown form bounds cpu (own ∷ captures) =
    listed_losses form (bounds cpu) cpu (unknown_from 0 own) ++ all_unknown form bounds (suc cpu) captures

-- the damaged pages of each CPU, from this one on
abbrev pub all_damaged : Form → (bounds : ℕ → Option KnownBound) → List ModelPart → (cpu : ℕ) → List (List Page)
    → List ℕ
all_damaged form bounds parts cpu [] = []
all_damaged form bounds parts cpu (own ∷ captures) =
    listed_damages form (bounds cpu) (map measured (parts_of_cpu cpu parts)) cpu (damages_from 0 0 own)
    ++ all_damaged form bounds parts (suc cpu) captures

-- what the kernel counted of a ring
abbrev pub ring_losses : Counters → RingLosses
ring_losses counters = record {
  overrun = counters.overrun;
  commit_overrun = counters.commit_overrun;
  dropped = counters.dropped;
}

-- the losses of a CPU in sum, if its ring's counters are known
abbrev pub sum_of : Form → Selected → Option Counters → (cpu missing unknown : ℕ) → List ℕ
sum_of form selected None cpu missing unknown = []
sum_of form selected (Some counters) cpu missing unknown =
    listed_sum form selected cpu missing unknown (ring_losses counters)

-- the losses of each CPU in sum, from this one on, of which these numbers are missing
abbrev pub all_sums : Form → Selected → (counted : ℕ → Option Counters) → (runs : List (List (ℕ × ℕ))) → (cpu : ℕ)
    → List (List Page) → List ℕ
all_sums form selected counted runs cpu [] = []
all_sums form selected counted runs cpu (own ∷ captures) =
    sum_of form selected (counted cpu) cpu (missing_count (slice_index_or runs cpu [])) (length (unknown_from 0 own))
    ++ all_sums form selected counted runs (suc cpu) captures

-- these are the counters of each CPU, from this one on
abbrev pub AreCounted : (counted : ℕ → Option Counters) → (cpu : ℕ) → List CpuCapture → Type 0
AreCounted counted cpu [] = ⊤
AreCounted counted cpu (found ∷ cpus) = (found.counters ≡ counted cpu) × AreCounted counted (suc cpu) cpus

-- no page of any CPU is damaged
abbrev pub are_all_intact : List (List Page) → Bool
are_all_intact [] = true
are_all_intact (own ∷ captures) = are_intact own && are_all_intact captures

-- of what is selected: the lines of the records and of the missing runs, then those of losses of unknown number, then
-- those of damaged pages, and then the losses of each CPU in sum
abbrev pub listing_text : Form → LineDetail → Selected → (counted : ℕ → Option Counters) → List ModelPart → Shown
    → List (List Page) → List ℕ
listing_text form detail selected counted parts shown captures =
    (((flat_map (listed_line form detail selected) shown.lines
    ++ listed_runs form (bounds_by selected shown.lines) shown.runs)
    ++ all_unknown form (bounds_by selected shown.lines) 0 captures)
    ++ all_damaged form (bounds_by selected shown.lines) parts 0 captures)
    ++ all_sums form selected counted shown.runs 0 captures

-- how a listing ends
abbrev pub ending_of : (is_written is_intact : Bool) → Ending
ending_of is_written is_intact = if is_written then (if is_intact then Done else Damaged) else NotWritten

-- ---- a file that was cut short

-- the line of the first file that was cut short, if one was
abbrev pub cut_line : Option CutFile → List ℕ
cut_line None = []
cut_line (Some cut) = fault_line (Format cut.fault)

-- a text, and behind it that line
abbrev pub with_cut : Option CutFile → List ℕ → List ℕ
with_cut None text = text
with_cut (Some cut) text = text ++ fault_line (Format cut.fault)

-- the ending says so, in place of this one
abbrev pub cut_ending : Option CutFile → Ending → Ending
cut_ending None ending = ending
cut_ending (Some cut) ending = MalformedFile cut.input (Format cut.fault)

-- ---- what is said of records

-- what a line says of its record, by these formats, and by these lines of processes and of symbols, if they are asked
-- for
abbrev pub detail_by : Detail → List EventFormat → (tasks symbols : Option (List (List ℕ))) → LineDetail
detail_by Payload formats tasks symbols = bare
detail_by Names formats tasks symbols = named formats tasks
detail_by Fields formats tasks symbols =
    fielded formats (record { tasks = tasks; tables = true; symbols = symbols })

-- these are the events that formats describe, the processes of these lines, and the functions of these
pub record AreTexts (texts : Texts) (formats : List EventFormat) (tasks symbols : Option (List (List ℕ))) : Type 0 where
  pub names_are : HasEvents texts.names.now formats
  pub tasks_are : AreTasks (tasks_lent texts.tasks) tasks
  pub symbols_are : AreSymbols (symbols_lent texts.symbols) symbols

-- the marks of the events that a pattern names by these formats, if there is one
abbrev pub marks_by : Option (List ℕ) → List EventFormat → Option (List Bool)
marks_by pattern formats = option_map (λ p. marks_of p (λ id. event_of id formats)) pattern

-- what is selected, with these events in place of its own, if there are some
abbrev pub with_marks : Option (List Bool) → Selected → Selected
with_marks None selected = selected
with_marks (Some marks) selected = record selected { events = Some marks }

-- there are marks, and none is set
abbrev pub is_unnamed : Option (List Bool) → Bool
is_unnamed None = false
is_unnamed (Some marks) = not (list_any (λ is_set. is_set) marks)

-- how many lines that are listed have a field without a value
abbrev pub cut_count : LineDetail → Selected → List Line → ℕ
cut_count detail selected lines = min (count_by (is_listed_cut detail selected) lines) (2 ^ 64 - 1)

-- the events whose formats are malformed, if fields are printed
abbrev pub malformed_for : LineDetail → List Malformed
malformed_for bare = []
malformed_for (named formats tasks) = []
malformed_for (fielded formats texts) = malformed_events (λ id. event_of id formats)

-- a line says of its record's event what the naming says, and these are the events whose formats are malformed
pub record Describes (naming : Naming) (malformed : List MalformedEvent) (detail : LineDetail) : Type 0 where
  pub is_detail : IsDetail naming detail
  pub malformed_are : map malformed_seen malformed ≡ malformed_for detail

-- nothing is said of fields
pub record SaysNothing (listed : Listed) : Type 0 where
  pub none_cut : listed.cut ≡ 0
  pub none_malformed : listed.malformed.items ≡ []
  pub none_unnamed : listed.is_unnamed ≡ false

-- What the captures have and miss was written, as far as it is selected, and is said of it; last of all the line of the
-- first file that was cut short, if one was.
pub record IsListedCut (cut : Option CutFile) (form : Form) (detail : LineDetail) (selected : Selected)
    (counted : ℕ → Option Counters) (parts : List ModelPart) (captures : List (List Page))
    (contents after : Option (List ℕ)) (failed : Bool) (listed : Listed) : Type 0 where
  pub shown : Shown
  pub is_print : IsPrintOf (parcels_of_captures 0 captures) shown
  pub written : IsTextWritten NotWritten contents after failed
      (with_cut cut (listing_text form detail selected counted parts shown captures))
      (cut_ending cut (ending_of true (are_all_intact captures))) listed.ending
  pub cut_is : listed.cut ≡ cut_count detail selected shown.lines
  pub malformed_are : map malformed_seen listed.malformed.items ≡ malformed_for detail

-- The same of files none of which was cut short.
abbrev pub IsListed : Form → LineDetail → Selected → (counted : ℕ → Option Counters) → List ModelPart
    → List (List Page) → (contents after : Option (List ℕ)) → (failed : Bool) → Listed → Type 0
IsListed form detail selected counted parts captures contents after failed listed =
    IsListedCut None form detail selected counted parts captures contents after failed listed
