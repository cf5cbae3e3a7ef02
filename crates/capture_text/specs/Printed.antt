-- What a printer prints of a record.
use Rattle.std.specs.Prelude.{◌≡◌, ℕ, ◌+◌, ◌-◌, ◌^◌, Bool, if◌then◌else◌, min, List, Option, Some, None, is_some, ⊤}
use Rattle.trace_model.specs.Listing.{Line}
use Rattle.trace_dat.specs.kernel_texts.Names.{Event, HasEvents, events_of}
use Rattle.event_fields.specs.Events.{HasFields}
use Rattle.kernel_names.specs.declared.event_tables.EventTables.{EventTables}
use Rattle.kernel_names.specs.declared.symbol_names.SymbolNames.{SymbolNames}
use Rattle.kernel_names.specs.declared.tasks.TaskNames.{TaskNames}
use Rattle.kernel_names.specs.EventTables.{HasTables}
use Rattle.kernel_names.specs.SymbolNames.{HasSymbols}
use Rattle.kernel_names.specs.Tasks.{HasTasks}
use Rattle.command_io.specs.declared.ends.Sink.{Ghosts}
use Rattle.text_values.specs.declared.output.Out.{Out}
use Rattle.text_values.specs.Putting.{Puts}
use Rattle.capture_text.specs.declared.naming.Beside.{Beside}
use Rattle.capture_text.specs.declared.naming.Naming.{Naming}
use Rattle.capture_text.specs.declared.naming.Naming.TheVariants.{Payload, Names, Fields}
use Rattle.capture_text.specs.declared.printer.Printer.{Printer}
use Rattle.capture_text.specs.Lent.{tasks_lent, tables_lent, symbols_lent}
use Rattle.capture_text.specs.Printing.{Detail, NameTexts, bare, named, fielded}
use Rattle.capture_text.specs.Selection.{selection_seen}
use Rattle.capture_text.specs.Window.{KnownBound, bound_at, listed_bound, noted_of}
use Rattle.capture_text.specs.Listed.{listed_line, is_listed_cut}

-- processes are named as these lines name them, if they are named
abbrev pub AreTasks : Option TaskNames → Option (List (List ℕ)) → Type 0
AreTasks None None = ⊤
AreTasks (Some tasks) (Some lines) = HasTasks tasks lines
AreTasks None (Some lines) = ⊥
AreTasks (Some tasks) None = ⊥

-- functions are named as these lines name them, if they are named
abbrev pub AreSymbols : Option SymbolNames → Option (List (List ℕ)) → Type 0
AreSymbols None None = ⊤
AreSymbols (Some symbols) (Some lines) = HasSymbols symbols lines
AreSymbols None (Some lines) = ⊥
AreSymbols (Some symbols) None = ⊥

-- numbers are named by these texts
pub record AreNamed (beside : Beside) (texts : NameTexts) : Type 0 where
  pub tasks : AreTasks (tasks_lent beside.tasks) texts.tasks
  pub tables : is_some beside.tables ≡ texts.tables
  pub symbols : AreSymbols (symbols_lent beside.symbols) texts.symbols

-- a line says of its record's event what these formats say, in this detail
abbrev pub IsDetail : Naming → Detail → Type 0
IsDetail Payload bare = ⊤
IsDetail (Names names tasks) (named formats lines) = HasEvents names.now formats × AreTasks (tasks_lent tasks) lines
IsDetail (Fields names fields beside) (fielded formats texts) = HasEvents names.now formats × AreNamed beside texts
IsDetail Payload (named formats lines) = ⊥
IsDetail Payload (fielded formats texts) = ⊥
IsDetail (Names names tasks) bare = ⊥
IsDetail (Names names tasks) (fielded formats texts) = ⊥
IsDetail (Fields names fields beside) bare = ⊥
IsDetail (Fields names fields beside) (named formats lines) = ⊥

-- tables, if there are some, are those of the fields of these events
abbrev pub AreTables : Option EventTables → (ℕ → Option Event) → Type 0
AreTables None event_by = ⊤
AreTables (Some tables) event_by = HasTables tables event_by

-- fields and tables, if they are printed, are those of the events that have names
abbrev pub IsSound : Naming → Type 0
IsSound Payload = ⊤
IsSound (Names names tasks) = ⊤
IsSound (Fields names fields beside) =
    HasFields fields.now (events_of names.now) × AreTables (tables_lent beside.tables) (events_of names.now)

-- a count of records with a field that has no value, after one record more
abbrev pub counted : (cut : ℕ) → (is_cut : Bool) → ℕ
counted cut is_cut = min (cut + (if is_cut then 1 else 0)) (2 ^ 64 - 1)

-- what is known of each CPU that is listed
abbrev pub bounds_of : Printer → (cpu : ℕ) → Option KnownBound
bounds_of printer cpu = listed_bound (selection_seen printer.selection) (bound_at printer.window) cpu

-- The record's line was put if it is listed, in the printer's form and detail; the printer counts it if a field has no
-- value in it, knows the record, and is else as it was.
pub record PrintsRecord {W : Type 0} {g : Ghosts W} (line : Line) (printer : Printer) (old : Out W g)
    (printer_now : Printer) (new : Out W g) : Type 0 where
  pub same_form : printer_now.form ≡ printer.form
  pub same_naming : printer_now.naming ≡ printer.naming
  pub same_selection : printer_now.selection ≡ printer.selection
  pub put : (detail : Detail) → IsDetail printer.naming detail
      → Puts (listed_line printer.form detail (selection_seen printer.selection) line) old new
  pub cut : (detail : Detail) → IsDetail printer.naming detail
      → printer_now.cut ≡ counted printer.cut (is_listed_cut detail (selection_seen printer.selection) line)
  pub noted : (cpu : ℕ) → bound_at printer_now.window cpu
      ≡ noted_of (selection_seen printer.selection) cpu (bound_at printer.window cpu) line
