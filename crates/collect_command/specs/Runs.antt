-- What a run of `collect` does with its inputs and its sink.
use Rattle.std.specs.Prelude.{◌≡◌, ◌⊎◌, ℕ, Bool, false, not, List, [], ◌∷◌, ◌++◌, length, is_some, map, Option}
use Rattle.std.specs.Borrow.{Bor}
use Rattle.trace_model.specs.declared.limits.TheConstants.{MAX_CPUS}
use Rattle.std.specs.Option.{option_map}
use Rattle.trace_dat.specs.Contents.{EventFormat, format_seen}
use Rattle.trace_dat.specs.kernel_texts.Names.{HasEvents}
use Rattle.trace_dat.specs.declared.kernel_texts.counters.Counters.{Counters}
use Rattle.event_fields.specs.Texts.{parts_of}
use Rattle.event_fields.specs.Malformed.{malformed_seen}
use Rattle.command_io.specs.declared.command.TheConstants.{MEMORY_LINE}
use Rattle.command_io.specs.Written.{IsTextWritten}
use Rattle.capture.specs.Pages.{Page}
use Rattle.capture.specs.declared.files.captured.Input.{Input}
use Rattle.capture.specs.declared.files.fault.InputFault.{InputFault}
use Rattle.capture.specs.declared.files.fault.InputFault.TheVariants as faults
use Rattle.capture.specs.files.Files.{File, ModelPart, ArePartsOf, all_formats, all_others, is_in_any}
use Rattle.capture.specs.files.Files.{all_lines, tasks_of, symbols_of, first_cut}
use Rattle.capture.specs.files.Captures.{texts_held}
use Rattle.capture.specs.declared.files.captured.Captured.{Captured}
use Rattle.capture.specs.declared.files.captured.CutFile.{CutFile}
use Rattle.capture.specs.declared.files.captured.Wanted.{Wanted}
use Rattle.capture.specs.files.Losses.{cpu_counters_in, overrun_in}
use Rattle.capture.specs.files.Inputs.{AreRead, IsUnread}
use Rattle.collect_command.specs.declared.collect.Collecting.{Collecting}
use Rattle.collect_command.specs.declared.ending.Collected.{Collected}
use Rattle.collect_command.specs.declared.ending.Listed.{Listed}
use Rattle.collect_command.specs.declared.ending.Ending.{Ending}
use Rattle.collect_command.specs.declared.ending.Ending.TheVariants.{MalformedFile, Numbers, NoMemory, NotRead}
use Rattle.collect_command.specs.declared.ending.Ending.TheVariants.{NotWritten}
use Rattle.collect_command.specs.Gathered.{AreCpusPages}
use Rattle.collect_command.specs.Faults.{fault_line, numbers_line}
use Rattle.capture_text.specs.Printing.{Detail as LineDetail}
use Rattle.capture_text.specs.Printed.{AreTasks, AreSymbols}
use Rattle.capture_text.specs.Selection.{Selected, selection_seen}
use Rattle.collect_command.specs.Listings.{IsListedCut, SaysNothing, detail_by, is_unnamed, marks_by}
use Rattle.collect_command.specs.Listings.{with_marks}

-- the formats in the files, and those that are given
abbrev pub formats_for : Collecting → List File → List EventFormat
formats_for collecting files = all_formats files ++ map format_seen collecting.formats.now

-- a text that may be given, without its place in memory
abbrev pub text_in : Option (Bor (List ℕ)) → Option (List ℕ)
text_in given = option_map (λ text. text.now) given

-- the lines of a list in the files, and those of the text that is given, if they are asked for
abbrev pub lines_for : (given : Option (List ℕ)) → (known : List (List ℕ)) → Option (List (List ℕ))
lines_for given known = option_map (λ text. known ++ parts_of 10 text) given

-- the marks of the events that the pattern names by these formats, if there is one
abbrev pub marks_for : Collecting → List EventFormat → Option (List Bool)
marks_for collecting formats = marks_by (text_in collecting.pattern) formats

-- what a line says of its record
abbrev pub detail_for : Collecting → List File → LineDetail
detail_for collecting files =
    detail_by collecting.detail (formats_for collecting files)
    (lines_for (text_in collecting.tasks) (all_lines tasks_of files))
    (lines_for (text_in collecting.symbols) (all_lines symbols_of files))

-- which records are listed
abbrev pub selected_for : Collecting → List File → Selected
selected_for collecting files = with_marks (marks_for collecting (formats_for collecting files))
    (selection_seen collecting.selection)

-- what is read beside the pages, since it is asked for
abbrev pub wanted_by : Collecting → Wanted
wanted_by collecting = record { tasks = is_some collecting.tasks; symbols = is_some collecting.symbols }

-- what was read, if it is asked for
abbrev pub kept_if : {A B : Type 0} → Option A → B → Option B
kept_if given read = option_map (λ _. read) given

-- the events that formats describe, and the processes and functions of these lines, if they are asked for, were read
-- and given
pub record AreGiven (collecting : Collecting) (captured : Captured) (formats : List EventFormat)
    (tasks symbols : Option (List (List ℕ))) : Type 0 where
  pub names_are : HasEvents captured.names formats
  pub tasks_are : AreTasks (kept_if collecting.tasks captured.tasks) tasks
  pub symbols_are : AreSymbols (kept_if collecting.symbols captured.symbols) symbols

-- these captures are listed, with what was read and given, and it is said whether the pattern names none of the events
pub record IsListedSo (collecting : Collecting) (formats : List EventFormat) (tasks symbols : Option (List (List ℕ)))
    (cut : Option CutFile) (counted : ℕ → Option Counters) (parts : List ModelPart) (captures : List (List Page))
    (contents after : Option (List ℕ)) (failed : Bool) (listed : Listed) : Type 0 where
  pub is_listed : IsListedCut cut collecting.form (detail_by collecting.detail formats tasks symbols)
      (with_marks (marks_for collecting formats) (selection_seen collecting.selection)) counted parts captures contents
      after failed listed
  pub unnamed_is : listed.is_unnamed ≡ is_unnamed (marks_for collecting formats)

-- they ask for the same listing, wherever the formats are in memory
pub record AskTheSame (one other : Collecting) : Type 0 where
  pub form : one.form ≡ other.form
  pub page : one.page ≡ other.page
  pub buffer : one.buffer.now ≡ other.buffer.now
  pub detail : one.detail ≡ other.detail
  pub selection : selection_seen one.selection ≡ selection_seen other.selection
  pub pattern : text_in one.pattern ≡ text_in other.pattern
  pub tasks : text_in one.tasks ≡ text_in other.tasks
  pub symbols : text_in one.symbols ≡ text_in other.symbols
  pub formats : map format_seen one.formats.now ≡ map format_seen other.formats.now

-- they say the same of a listing
pub record SayTheSame (one other : Listed) : Type 0 where
  pub ending : one.ending ≡ other.ending
  pub cut : one.cut ≡ other.cut
  pub malformed : map malformed_seen one.malformed.items ≡ map malformed_seen other.malformed.items
  pub is_unnamed : one.is_unnamed ≡ other.is_unnamed

-- The files, none of which has a fault that hinders reading, are listed: their pages, CPU by CPU, what these have and
-- miss, and last of all the fault of the first file that was cut short, if one was.
pub record ListsFiles (collecting : Collecting) (files : List File) (contents after : Option (List ℕ)) (failed : Bool)
    (listed : Listed) : Type 0 where
  pub parts : List ModelPart
  pub parts_are : ArePartsOf collecting.page collecting.buffer.now files parts
  pub captures : List (List Page)
  pub pages_are : AreCpusPages (overrun_in collecting.buffer.now files) parts 0 captures
  pub count : length captures ≡ MAX_CPUS
  pub is_listed : IsListedCut (first_cut collecting.buffer.now 0 files) collecting.form (detail_for collecting files)
      (selected_for collecting files) (cpu_counters_in collecting.buffer.now files) parts captures contents after failed
      listed
  pub unnamed_is : listed.is_unnamed ≡ is_unnamed (marks_for collecting (formats_for collecting files))

-- nothing was written
pub record IsUnwritten (contents after : Option (List ℕ)) (failed : Bool) : Type 0 where
  pub kept : after ≡ contents
  pub sound : failed ≡ false

-- the line for refused memory is all that is written
abbrev pub IsMemoryLine : (contents after : Option (List ℕ)) (failed : Bool) → Ending → Type 0
IsMemoryLine contents after failed ending = IsTextWritten NotWritten contents after failed MEMORY_LINE NoMemory ending

-- the same, and nothing is said of a listing
pub record TellsMemory (contents after : Option (List ℕ)) (failed : Bool) (listed : Listed) : Type 0 where
  pub line : IsMemoryLine contents after failed listed.ending
  pub nothing : SaysNothing listed

-- what is written if this input can't be read for this fault
abbrev pub TellsFault : (index : ℕ) → InputFault → (contents after : Option (List ℕ)) (failed : Bool) → Ending → Type 0
TellsFault index faults.Read contents after failed ending = IsUnwritten contents after failed × (ending ≡ NotRead index)
TellsFault index (faults.File fault) contents after failed ending =
    IsTextWritten NotWritten contents after failed (fault_line fault) (MalformedFile index fault) ending
    ⊎ IsMemoryLine contents after failed ending
TellsFault index faults.Numbers contents after failed ending =
    IsTextWritten NotWritten contents after failed numbers_line Numbers ending
TellsFault index faults.NoMemory contents after failed ending = IsMemoryLine contents after failed ending

-- what was read of other trace buffers, and whether there was the one that is listed, stays as it is
pub record KeepsOthers (old new : Captured) : Type 0 where
  pub others : new.others ≡ old.others
  pub found : new.found ≡ old.found

-- the same, what was read of CPUs, and which file was cut short
pub record KeepsRead (old new : Captured) : Type 0 where
  pub others : new.others ≡ old.others
  pub found : new.found ≡ old.found
  pub cpus : new.cpus ≡ old.cpus
  pub cut : new.cut ≡ old.cut

-- an instance is asked for, by its name, that wasn't found
abbrev pub is_missing : (name : List ℕ) → (found : Bool) → Bool
is_missing [] found = false
is_missing (b ∷ bs) found = not found

module _ {R : Type 0} (remaining : R → Option (List ℕ)) (has_failed : R → Bool) where
  -- All inputs were read, and are listed, or memory was refused before anything was written. `collected` says which
  -- instances aren't listed, and whether the one that was asked for is missing.
  pub record CollectsAll (collecting : Collecting) (old new : List (Input R)) (contents after : Option (List ℕ))
      (failed : Bool) (collected : Collected) : Type 0 where
    pub files : List File
    pub are_read : AreRead remaining has_failed old new files
    pub told : ListsFiles collecting files contents after failed collected.listed
        ⊎ TellsMemory contents after failed collected.listed
    pub others_are : texts_held collected.others.items ≡ all_others collecting.buffer.now files
    pub missing_is : collected.is_missing ≡ is_missing collecting.buffer.now (is_in_any collecting.buffer.now files)

  -- an input couldn't be read
  pub record CollectsNone (collecting : Collecting) (old new : List (Input R)) (contents after : Option (List ℕ))
      (failed : Bool) (collected : Collected) : Type 0 where
    pub index : ℕ
    pub fault : InputFault
    pub unread : IsUnread remaining has_failed collecting.page collecting.buffer.now old new index fault
    pub told : TellsFault index fault contents after failed collected.listed.ending
    pub nothing : SaysNothing collected.listed
    pub no_others : collected.others.items ≡ []
    pub not_missing : collected.is_missing ≡ false

  -- What a run of `collect` does.
  abbrev pub IsCollectRun : (collecting : Collecting) (old new : List (Input R)) (contents after : Option (List ℕ))
      (failed : Bool) → Collected → Type 0
  IsCollectRun collecting old new contents after failed collected =
      CollectsAll collecting old new contents after failed collected
      ⊎ CollectsNone collecting old new contents after failed collected
