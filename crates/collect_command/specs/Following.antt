-- What a run of `collect --follow` does with its inputs and its sink.
use Rattle.std.specs.Prelude.{◌≡◌, ◌⊎◌, ◌==◌, ℕ, Bool, true, false, if◌then◌else◌, List, [], Option, Some, None, map}
use Rattle.std.specs.List.{position}
use Rattle.std.specs.Option.{unwrap_or}
use Rattle.trace_model.specs.declared.numbers.CpuId.{CpuId}
use Rattle.trace_dat.specs.Contents.{EventFormat, format_seen}
use Rattle.trace_dat.specs.kernel_texts.Names.{HasEvents}
use Rattle.kernel_names.specs.Tasks.{HasTasks}
use Rattle.kernel_names.specs.SymbolNames.{HasSymbols}
use Rattle.event_fields.specs.Malformed.{malformed_seen}
use Rattle.command_io.specs.Written.{IsTextWritten}
use Rattle.capture.specs.declared.files.captured.Captured.{Captured}
use Rattle.capture_text.specs.declared.form.Form.{Form}
use Rattle.capture_text.specs.declared.printer.Printer.{Printer}
use Rattle.capture_text.specs.Printing.{Detail as LineDetail}
use Rattle.capture_text.specs.Selection.{Selected, selection_seen}
use Rattle.live_listing.specs.declared.following.Followed.{Followed}
use Rattle.live_listing.specs.declared.following.Happening.{Happening}
use Rattle.live_listing.specs.declared.following.Stop.{Stop}
use Rattle.live_listing.specs.declared.following.Stop.TheVariants as stops
use Rattle.live_listing.specs.Following.{FollowsAll, FollowsPart}
use Rattle.live_listing.specs.Printing.{HasPrinted}
use Rattle.collect_command.specs.declared.collect.Collecting.{Collecting}
use Rattle.collect_command.specs.declared.follow.LiveCollected.{LiveCollected}
use Rattle.collect_command.specs.declared.ending.Ending.{Ending}
use Rattle.collect_command.specs.declared.ending.Ending.TheVariants.{Done, Damaged, Numbers, NotRead, NotWritten}
use Rattle.collect_command.specs.Faults.{numbers_line}
use Rattle.collect_command.specs.Runs.{IsMemoryLine, lines_for, marks_for, text_in, wanted_by}
use Rattle.collect_command.specs.Listings.{detail_by, is_unnamed, malformed_for, with_marks}

-- the place of a CPU among these, or the first if it is none of them
abbrev pub place_of : List CpuId → CpuId → ℕ
place_of cpus cpu = unwrap_or (position (λ c. c.0 == cpu.0) cpus) 0

-- how a listing ends whose inputs have all ended: a read of one of them failed, or all is printed
abbrev pub ending_by : List CpuId → (not_read : Option CpuId) → (is_intact : Bool) → Ending
ending_by cpus (Some cpu) is_intact = NotRead (place_of cpus cpu)
ending_by cpus None is_intact = if is_intact then Done else Damaged

-- What happened was listed until all inputs had ended, by a printer that had printed nothing before; and it is said how
-- that ends, how many lines were late, how many have a field without a value, and which formats are malformed.
pub record ListsAll {S : Type 0} (gives : S → Happening → S → Type 0) (cpus : List CpuId) (size : ℕ) (form : Form)
    (detail : LineDetail) (selected : Selected) (source source_now : S) (contents after : Option (List ℕ))
    (failed : Bool) (collected : LiveCollected) : Type 0 where
  pub sound : failed ≡ false
  pub printer : Printer
  pub nothing : HasPrinted form detail selected [] printer
  pub printer_now : Printer
  pub followed : Followed
  pub follows : FollowsAll gives cpus size source printer contents source_now printer_now after followed
  pub ending_is : collected.listed.ending ≡ ending_by cpus followed.not_read followed.is_intact
  pub late_is : collected.late ≡ followed.late
  pub cut_is : collected.listed.cut ≡ printer_now.cut
  pub malformed_are : map malformed_seen collected.listed.malformed.items ≡ malformed_for detail

-- Why a listing was stopped is said by a line behind what was written of it, or by a beginning of that line. A write
-- that failed before is said by the ending alone.
abbrev pub TellsStop : Stop → (contents : Option (List ℕ)) → (had_failed : Bool) → (after : Option (List ℕ))
    → (failed : Bool) → Ending → Type 0
TellsStop stops.Numbers contents had_failed after failed ending =
    (had_failed ≡ false) × IsTextWritten NotWritten contents after failed numbers_line Numbers ending
TellsStop stops.NoMemory contents had_failed after failed ending =
    (had_failed ≡ false) × IsMemoryLine contents after failed ending
TellsStop stops.NotWritten contents had_failed after failed ending =
    (had_failed ≡ true) × (failed ≡ true) × (after ≡ contents) × (ending ≡ NotWritten)

-- A listing was stopped: the text of what was given until then is written as far as writes went, and behind it is said
-- why. No line is counted.
pub record ListsPart {S : Type 0} (gives : S → Happening → S → Type 0) (cpus : List CpuId) (size : ℕ) (form : Form)
    (detail : LineDetail) (selected : Selected) (source : S) (contents after : Option (List ℕ)) (failed : Bool)
    (collected : LiveCollected) : Type 0 where
  pub printer : Printer
  pub nothing : HasPrinted form detail selected [] printer
  pub printer_now : Printer
  pub between : Option (List ℕ)
  pub had_failed : Bool
  pub part : FollowsPart gives cpus size source printer contents printer_now between had_failed
  pub stop : Stop
  pub told : TellsStop stop between had_failed after failed collected.listed.ending
  pub none_late : collected.late ≡ 0
  pub none_cut : collected.listed.cut ≡ 0
  pub none_malformed : collected.listed.malformed.items ≡ []

-- What happened was listed until all inputs had ended, or until something stopped the listing.
pub record IsFollowed {S : Type 0} (gives : S → Happening → S → Type 0) (cpus : List CpuId) (size : ℕ) (form : Form)
    (detail : LineDetail) (selected : Selected) (source source_now : S) (contents after : Option (List ℕ))
    (failed : Bool) (collected : LiveCollected) : Type 0 where
  pub told : ListsAll gives cpus size form detail selected source source_now contents after failed collected
      ⊎ ListsPart gives cpus size form detail selected source contents after failed collected

-- nothing is known of the events, processes and functions
pub record IsNothing (collecting : Collecting) (captured : Captured) : Type 0 where
  pub names : HasEvents captured.names []
  pub tasks : HasTasks captured.tasks []
  pub symbols : HasSymbols captured.symbols []
  pub wanted : captured.wanted ≡ wanted_by collecting

-- the formats that are given
abbrev pub formats_given : Collecting → List EventFormat
formats_given collecting = map format_seen collecting.formats.now

-- The inputs were listed as it is asked for, with what is given beside them; and it is said whether the pattern names
-- none of the events.
pub record FollowsFiles {S : Type 0} (gives : S → Happening → S → Type 0) (collecting : Collecting) (cpus : List CpuId)
    (source source_now : S) (contents after : Option (List ℕ)) (failed : Bool) (collected : LiveCollected) : Type 0
  where
    pub followed : IsFollowed gives cpus collecting.page collecting.form
        (detail_by collecting.detail (formats_given collecting) (lines_for (text_in collecting.tasks) [])
        (lines_for (text_in collecting.symbols) []))
        (with_marks (marks_for collecting (formats_given collecting)) (selection_seen collecting.selection)) source
        source_now contents after failed collected
    pub unnamed_is : collected.listed.is_unnamed ≡ is_unnamed (marks_for collecting (formats_given collecting))
