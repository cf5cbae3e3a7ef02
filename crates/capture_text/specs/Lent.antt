-- What gives names to numbers, without its place in memory.
use Rattle.std.specs.Prelude.{ℕ, ℤ, List, Option, Some, None, is_some}
use Rattle.std.specs.Borrow.{Bor}
use Rattle.std.specs.Option.{option_map}
use Rattle.kernel_names.specs.declared.event_tables.EventTables.{EventTables}
use Rattle.kernel_names.specs.declared.symbol_names.SymbolNames.{SymbolNames}
use Rattle.kernel_names.specs.declared.tasks.TaskNames.{TaskNames}
use Rattle.kernel_names.specs.SymbolNames.{known_name, name_up_to}
use Rattle.kernel_names.specs.Tasks.{name_known}
use Rattle.capture_text.specs.declared.naming.Beside.{Beside}
use Rattle.capture_text.specs.Beside.{FieldNaming}

abbrev pub tasks_lent : Option (Bor TaskNames) → Option TaskNames
tasks_lent tasks = option_map (λ t. t.now) tasks

abbrev pub tables_lent : Option (Bor EventTables) → Option EventTables
tables_lent tables = option_map (λ t. t.now) tables

abbrev pub symbols_lent : Option (Bor SymbolNames) → Option SymbolNames
symbols_lent symbols = option_map (λ s. s.now) symbols

-- the name of a process, if names are known
abbrev pub task_known : Option TaskNames → ℤ → Option (List ℕ)
task_known None pid = None
task_known (Some tasks) pid = name_known tasks pid

-- the function of an address
abbrev pub function_known : SymbolNames → ℕ → Option (List ℕ × ℕ)
function_known symbols address = name_up_to (known_name symbols) address

-- what names the numbers of fields
abbrev pub naming_seen : Beside → FieldNaming
naming_seen beside = record {
  tables = is_some beside.tables;
  functions = option_map function_known (symbols_lent beside.symbols);
}
