-- Which records of a collection are listed.
use Rattle.std.specs.Prelude.{ℕ, ℤ, ◌-◌, ◌^◌, Bool, true, false, ◌&&◌, nat_le, List, Option, Some, None}
use Rattle.std.specs.Prelude.{option_map, is_none, slice_index_or}
use Rattle.std.specs.List.{list_any}
use Rattle.std.specs.Ordering.{int_eq}
use Rattle.trace_model.specs.Listing.{Line}
use Rattle.trace_dat.specs.declared.kernel_texts.record.CommonFields.{CommonFields}
use Rattle.trace_dat.specs.kernel_texts.FirstBytes.{common_fields_in}
use Rattle.capture_text.specs.declared.selection.Selection.{Selection}

-- what is selected: CPUs and events by their marks, moments from one to another, and processes
pub record Selected : Type 0 where
  pub cpus : Option (List Bool)
  pub since : ℕ
  pub until : ℕ
  pub events : Option (List Bool)
  pub pids : Option (List ℤ)

-- all records
abbrev pub all_selected : Selected
all_selected = record { cpus = None; since = 0; until = 2 ^ 64 - 1; events = None; pids = None }

-- what a selection says
abbrev pub selection_seen : Selection → Selected
selection_seen selection = record {
  cpus = option_map (λ marks. marks.now) selection.cpus;
  since = selection.since.0;
  until = selection.until.0;
  events = option_map (λ marks. marks.now) selection.events;
  pids = option_map (λ pids. pids.now) selection.pids;
}

-- a number is marked; each is, if there are no marks
abbrev pub is_marked : Option (List Bool) → ℕ → Bool
is_marked None number = true
is_marked (Some marks) number = slice_index_or marks number false

-- a process is one of these; each is, if there are none
abbrev pub is_one_of : Option (List ℤ) → ℤ → Bool
is_one_of None pid = true
is_one_of (Some pids) pid = list_any (λ p. int_eq p pid) pids

abbrev pub has_moment : Selected → ℕ → Bool
has_moment selected moment = nat_le selected.since moment && nat_le moment selected.until

-- whether a record's event and process are such; of a record without these fields only if each is
abbrev pub has_writer : Selected → Option CommonFields → Bool
has_writer selected None = is_none selected.events && is_none selected.pids
has_writer selected (Some common) = is_marked selected.events common.event && is_one_of selected.pids common.pid

-- Whether a record is listed.
abbrev pub is_selected : Selected → Line → Bool
is_selected selected line =
    is_marked selected.cpus line.cpu
    && (has_moment selected line.moment && has_writer selected (common_fields_in line.bytes))
