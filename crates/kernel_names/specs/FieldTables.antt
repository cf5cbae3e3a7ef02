-- The table of names of a field, and which names a number has by it. After trace_print_flags_seq and
-- trace_print_symbols_seq of the kernel's kernel/trace/trace_output.c.
use Rattle.std.specs.Prelude.{ℕ, ◌==◌, List, [], ◌∷◌, map, Option, bit_and, if◌then◌else◌}
use Rattle.std.specs.Option.{option_and_then, option_map}
use Rattle.std.specs.Int.{w64, bit_not}
use Rattle.event_fields.specs.Texts.{parts_of}
use Rattle.kernel_names.specs.declared.calls.TableKind.{TableKind}
use Rattle.kernel_names.specs.declared.calls.TableKind.TheVariants.{Flags, Symbols}
use Rattle.kernel_names.specs.declared.tables.FieldTable.{FieldTable}
use Rattle.kernel_names.specs.declared.tables.NumberNames as lent
use Rattle.kernel_names.specs.Calls.{Call, calls_of, sole, print_in}
use Rattle.kernel_names.specs.Entries.{Entry, entry_seen, entries_seen, entries_after}

-- a table: how its names stand for a number, what is between two of them, and its entries
pub record Table : Type 0 where
  pub kind : TableKind
  pub delimiter : List ℕ
  pub entries : List Entry

-- a table without its place in memory
abbrev pub table_seen : FieldTable → Table
table_seen table =
    record { kind = table.kind; delimiter = table.delimiter.items; entries = entries_seen table.entries }

-- the table of a call, with these entries
abbrev pub table_with : Call → List Entry → Table
table_with call entries = record { kind = call.kind; delimiter = call.delimiter; entries = entries }

-- the table of a call, if its entries are known
abbrev pub table_in : Call → Option Table
table_in call = option_map (table_with call) (entries_after [] (parts_of 125 call.entries))

-- the table of the field of this name, by a print format: that of the only call of the field
abbrev pub table_in_text : (name text : List ℕ) → Option Table
table_in_text name text = option_and_then table_in (sole (calls_of name text))

-- The table of the field of this name, by a format.
abbrev pub table_of : (name format : List ℕ) → Option Table
table_of name format = option_and_then (table_in_text name) (print_in (parts_of 10 format))

-- ---- the names of a number

-- the bits of a number that aren't among these
abbrev pub without : (bits number : ℕ) → ℕ
without bits number = bit_and number (bit_not w64 bits)

-- the names of those entries, in their order, all of whose bits a number has, without the bits of the entries before;
-- no more once no bit is left
abbrev pub flag_names : List Entry → ℕ → List (List ℕ)
flag_names [] number = []
flag_names (entry ∷ entries) number =
    if number == 0 then []
    else if bit_and number entry.key == entry.key then entry.name ∷ flag_names entries (without entry.key number)
    else flag_names entries number

-- the bits that are left behind them
abbrev pub flag_rest : List Entry → ℕ → ℕ
flag_rest [] number = number
flag_rest (entry ∷ entries) number =
    if number == 0 then 0
    else if bit_and number entry.key == entry.key then flag_rest entries (without entry.key number)
    else flag_rest entries number

-- the name of the first entry that has this number
abbrev pub symbol_names : List Entry → ℕ → List (List ℕ)
symbol_names [] number = []
symbol_names (entry ∷ entries) number =
    if entry.key == number then entry.name ∷ [] else symbol_names entries number

-- The names that a number has by a table.
abbrev pub names_by : TableKind → List Entry → ℕ → List (List ℕ)
names_by Flags entries number = flag_names entries number
names_by Symbols entries number = symbol_names entries number

-- The bits that have no name by a table of flags.
abbrev pub rest_by : TableKind → List Entry → ℕ → ℕ
rest_by Flags entries number = flag_rest entries number
rest_by Symbols entries number = 0

-- the names that are left of a number's, and its bits without a name
abbrev pub names_seen : lent.NumberNames → List (List ℕ)
names_seen names = names_by names.kind (map entry_seen names.entries.now) names.number

abbrev pub rest_seen : lent.NumberNames → ℕ
rest_seen names = rest_by names.kind (map entry_seen names.entries.now) names.number
