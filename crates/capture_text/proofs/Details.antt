-- What names numbers, by the texts that it was made from.
use Rattle.std.proofs.Common.{◌≡◌, ℕ, ◌^◌, ◌<◌, List, Option, Some, None, Bor, refl, sym}
use Rattle.std.specs.Prelude.{ℤ, pos, negsuc}
use Rattle.std.specs.Option.{option_map}
use Rattle.kernel_names.specs.declared.symbol_names.SymbolNames.{SymbolNames}
use Rattle.kernel_names.specs.declared.tasks.TaskNames.{TaskNames}
use Rattle.kernel_names.specs.Symbols.{name_by}
use Rattle.kernel_names.specs.SymbolNames.{name_up_to}
use Rattle.capture_text.specs.declared.naming.Beside.{Beside}
use Rattle.capture_text.specs.Lent.{naming_seen, function_known, task_known, tasks_lent, symbols_lent}
use Rattle.capture_text.specs.Printed.{AreTables, AreTasks, AreSymbols, AreNamed, IsDetail}
use Rattle.capture_text.specs.Printing.{Detail, bare, named, fielded, NameTexts, naming_by, task_in_lines}
use Rattle.capture_text.specs.Printing.{fielded_line, json_fielded_line, record_line}
use Rattle.capture_text.specs.Sources.{HasTablesAt}
use Rattle.capture_text.specs.declared.form.Form.TheVariants.{Text, Json}
use Rattle.capture_text.specs.declared.naming.Naming.TheVariants.{Fields}
use Rattle.event_fields.specs.declared.events.EventFields.{EventFields}
use Rattle.kernel_names.specs.declared.event_tables.EventTables.{EventTables}
use Rattle.trace_dat.specs.declared.kernel_texts.names.EventNames.{EventNames}
use Rattle.trace_dat.specs.kernel_texts.Names.{Event, events_of}
use Rattle.trace_model.specs.Listing.{Line}

task_of : (tasks : Option TaskNames) (lines : Option (List (List ℕ))) → AreTasks tasks lines → (pid : ℤ)
    → task_known tasks pid ≡ task_in_lines lines pid
task_of None None are pid = refl
task_of (Some tasks) (Some lines) are (pos pid) = are pid
task_of (Some tasks) (Some lines) are (negsuc n) = refl
task_of None (Some lines) are pid = absurd are
task_of (Some tasks) None are pid = absurd are

-- processes have the same names
pub same_tasks : (tasks : Option TaskNames) (lines : Option (List (List ℕ))) → AreTasks tasks lines
    → task_known tasks ≡ task_in_lines lines
same_tasks tasks lines are = λ i pid. task_of tasks lines are pid i

same_functions : (symbols : Option SymbolNames) (lines : Option (List (List ℕ))) → AreSymbols symbols lines
    → option_map function_known symbols
    ≡ option_map (λ ls address. name_up_to (λ a. name_by a ls) address) lines
same_functions None None are = refl
same_functions (Some symbols) (Some lines) are = λ i. Some (λ address. name_up_to (λ a. are a i) address)
same_functions None (Some lines) are = absurd are
same_functions (Some symbols) None are = absurd are

-- and so do the numbers of fields
pub same_naming : (beside : Beside) (texts : NameTexts) → AreNamed beside texts → naming_seen beside ≡ naming_by texts
same_naming beside texts are = λ i. record {
  tables = are.tables i;
  functions = same_functions (symbols_lent beside.symbols) texts.symbols are.symbols i;
}

-- ---- the lines

module _ (names : Bor EventNames) (fields : Bor EventFields) (beside : Beside) (line : Line) where
  pub text_line : (detail : Detail) → IsDetail (Fields names fields beside) detail
      → fielded_line (naming_seen beside) (events_of names.now) (task_known (tasks_lent beside.tasks)) line
      ≡ record_line Text detail line
  text_line bare is = absurd is
  text_line (named formats tasks) is = absurd is
  text_line (fielded formats texts) is = λ i.
      fielded_line (same_naming beside texts is.1 i) (λ id. is.0 id i)
      (same_tasks (tasks_lent beside.tasks) texts.tasks is.1.tasks i) line

  pub json_line : (detail : Detail) → IsDetail (Fields names fields beside) detail
      → json_fielded_line (naming_seen beside) (events_of names.now) (task_known (tasks_lent beside.tasks)) line
      ≡ record_line Json detail line
  json_line bare is = absurd is
  json_line (named formats tasks) is = absurd is
  json_line (fielded formats texts) is = λ i.
      json_fielded_line (same_naming beside texts is.1 i) (λ id. is.0 id i)
      (same_tasks (tasks_lent beside.tasks) texts.tasks is.1.tasks i) line

-- ---- the tables of one event

pub tables_at : (tables : Option EventTables) (event_by : ℕ → Option Event) (id : ℕ) (event : Option Event)
    → AreTables tables event_by → id < 2 ^ 16 → event ≡ event_by id → HasTablesAt tables event id
tables_at tables event_by id None are small is = tt
tables_at None event_by id (Some event) are small is = tt
tables_at (Some tables) event_by id (Some event) are small is = λ fields known. are id event fields small (sym is) known
