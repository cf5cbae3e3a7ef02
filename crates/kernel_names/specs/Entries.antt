-- The entries of a table of names: `{ KEY, "NAME" }` each, with commas between them, up to a closing bracket. After
-- ftrace_print_flags_seq and ftrace_print_symbols_seq of the kernel's include/trace/stages/stage3_trace_output.h.
use Rattle.std.specs.Prelude.{ℕ, ◌++◌, ◌==◌, ◌||◌, Bool, not, List, [], ◌∷◌, length, map, codes, Option, Some, None}
use Rattle.std.specs.Prelude.{nat_le, nat_eq, if◌then◌else◌}
use Rattle.std.specs.Option.{option_and_then}
use Rattle.std.specs.List.{list_all, list_any, starts_with}
use Rattle.std.specs.Global.{Vec}
use Rattle.event_fields.specs.Texts.{after, before, cut_at}
use Rattle.kernel_names.specs.declared.entries.TheConstants.{MOST_ENTRIES}
use Rattle.kernel_names.specs.declared.entries.TableEntry.{TableEntry}
use Rattle.kernel_names.specs.declared.entries.LentEntry.{LentEntry}
use Rattle.kernel_names.specs.Constants.{key_in}
use Rattle.kernel_names.specs.Pieces.{unseparated, front_of_closing}

-- an entry: a number or bits, and their name
pub record Entry : Type 0 where
  pub key : ℕ
  pub name : List ℕ

-- entries without their places in memory
abbrev pub entry_seen : TableEntry → Entry
entry_seen entry = record { key = entry.key; name = entry.name.items }

abbrev pub lent_entry_seen : LentEntry → Entry
lent_entry_seen entry = record { key = entry.key; name = entry.name.now }

abbrev pub entries_seen : Vec TableEntry → List Entry
entries_seen entries = map entry_seen entries.items

-- whether a table ends where this part of it begins
abbrev pub ends_table : List ℕ → Bool
ends_table part = starts_with nat_eq (unseparated part) (codes ")")

-- the entry of this key and name: the name has no escape, and only blanks are behind it
abbrev pub entry_of : ℕ → (name behind : List ℕ) → Option Entry
entry_of key name behind =
    if list_any (λ b. b == 92) name || not (list_all (λ b. b == 32) behind) then None
    else Some (record { key = key; name = name })

-- the entry that a part of a table has: what is up to its closing brace
unfoldable pub entry_in : List ℕ → Option Entry
entry_in part =
    option_and_then (λ inner. option_and_then (λ parts. option_and_then (λ named. option_and_then (λ text.
    option_and_then (λ key. entry_of key named.0 named.1) (key_in text))
    (before (codes ",") (front_of_closing parts.0))) (cut_at 34 parts.1)) (cut_at 34 inner))
    (after (codes "{") (unseparated part))

-- the entry that a part has after others, if it isn't one too many
abbrev pub further_in : List Entry → List ℕ → Option Entry
further_in entries part = if nat_le MOST_ENTRIES (length entries) then None else entry_in part

-- The entries of a table after others: those of its parts up to where it ends. None if it doesn't end, or a part before
-- that has none.
abbrev pub entries_after : List Entry → List (List ℕ) → Option (List Entry)
entries_after entries [] = None
entries_after entries (part ∷ parts) =
    if ends_table part then Some entries
    else option_and_then (λ entry. entries_after (entries ++ entry ∷ []) parts) (further_in entries part)
