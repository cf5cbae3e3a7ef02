-- How the words are read that say which records of a listing are printed.
use Rattle.std.specs.Prelude.{ℕ, zero, suc, ℤ, pos, ◌-◌, ◌+◌, ◌==◌, ◌&&◌, Bool, true, false, List, [], ◌∷◌, Option}
use Rattle.std.specs.Prelude.{Some, None, drop, take, length, nat_lt, nat_le, if◌then◌else◌, is_some, option_map}
use Rattle.std.specs.Prelude.{option_and_then}
use Rattle.std.specs.List.{list_all, list_any, position as first_place}
use Rattle.trace_model.specs.declared.limits.TheConstants.{MAX_CPUS}
use Rattle.command_line.specs.FileWords.{number_in}
use Rattle.command_line.specs.declared.values.TheConstants.{MAX_MOMENT, MAX_PATTERN}
use Rattle.command_line.specs.declared.lists.TheConstants.{MAX_PID}

-- ---- lists

-- the bytes `,` and `-`
abbrev pub is_comma : ℕ → Bool
is_comma byte = byte == 44

abbrev pub is_hyphen : ℕ → Bool
is_hyphen byte = byte == 45

-- the parts with one byte more before the first one
abbrev pub with_byte : (byte : ℕ) (parts : List (List ℕ)) → List (List ℕ)
with_byte byte [] = (byte ∷ []) ∷ []
with_byte byte (part ∷ parts) = (byte ∷ part) ∷ parts

-- the parts of a list, between which its commas are
abbrev pub parts_of : (list : List ℕ) → List (List ℕ)
parts_of [] = [] ∷ []
parts_of (byte ∷ list) = if is_comma byte then [] ∷ parts_of list else with_byte byte (parts_of list)

-- the parts behind a comma, if there is one
abbrev pub parts_behind : Option (List ℕ) → List (List ℕ)
parts_behind None = []
parts_behind (Some list) = parts_of list

-- ---- lists of CPUs

-- the first and the last CPU of a part whose first hyphen is at this place, if it has one
abbrev pub range_split : (part : List ℕ) → Option ℕ → Option (ℕ × ℕ)
range_split part None = option_map (λ cpu. (cpu, cpu)) (number_in 0 (MAX_CPUS - 1) part)
range_split part (Some at) =
    option_and_then (λ first. option_map (λ last. (first, last)) (number_in first (MAX_CPUS - 1) (drop (at + 1) part)))
    (number_in 0 (MAX_CPUS - 1) (take at part))

-- The first and the last CPU of a part of a list: it is a number, or two with a hyphen between them, of which the
-- second isn't below the first. Both are those of CPUs that there can be.
abbrev pub range_in : (part : List ℕ) → Option (ℕ × ℕ)
range_in part = range_split part (first_place is_hyphen part)

-- a part of a list has this CPU
abbrev pub is_within : (cpu : ℕ) → Option (ℕ × ℕ) → Bool
is_within cpu None = false
is_within cpu (Some range) = nat_le range.0 cpu && nat_le cpu range.1

-- a list has this CPU in one of its parts
abbrev pub is_listed : (list : List ℕ) (cpu : ℕ) → Bool
is_listed list cpu = list_any (λ part. is_within cpu (range_in part)) (parts_of list)

-- whether a text is a list of CPUs: each of its parts is one or a range of them
abbrev pub is_cpu_list : (list : List ℕ) → Bool
is_cpu_list list = list_all (λ part. is_some (range_in part)) (parts_of list)

-- whether a list has them, of so many CPUs from this one on
unfoldable pub marks_from : (list : List ℕ) (cpu count : ℕ) → List Bool
marks_from list cpu zero = []
marks_from list cpu (suc count) = is_listed list cpu ∷ marks_from list (cpu + 1) count

-- The marks of all CPUs that there can be, each at the place that is its number, by a list of them.
abbrev pub cpu_list : (list : List ℕ) → Option (List Bool)
cpu_list list = if is_cpu_list list then Some (marks_from list 0 MAX_CPUS) else None

-- ---- lists of processes

-- the process of a part of a list
abbrev pub pid_in : (part : List ℕ) → Option ℤ
pid_in part = option_map (λ pid. pos pid) (number_in 0 MAX_PID part)

-- the processes of these parts, if each is the number of one
abbrev pub pids_in : (parts : List (List ℕ)) → Option (List ℤ)
pids_in [] = Some []
pids_in (part ∷ parts) = option_and_then (λ pid. option_map (λ pids. pid ∷ pids) (pids_in parts)) (pid_in part)

-- The processes of a list of numbers, in its order.
abbrev pub pid_list : (list : List ℕ) → Option (List ℤ)
pid_list list = pids_in (parts_of list)

-- ---- moments, patterns and paths

-- the moment that a text is
abbrev pub moment_in : (text : List ℕ) → Option ℕ
moment_in text = number_in 0 MAX_MOMENT text

-- the first moment isn't after the last one, if both are there
abbrev pub is_in_order : (since until : Option ℕ) → Bool
is_in_order None until = true
is_in_order (Some since) None = true
is_in_order (Some since) (Some until) = nat_le since until

-- a pattern has a byte, and not too many
abbrev pub pattern_in : (text : List ℕ) → Option (List ℕ)
pattern_in text = if nat_lt 0 (length text) && nat_le (length text) MAX_PATTERN then Some text else None

-- a path has a byte
abbrev pub path_in : (text : List ℕ) → Option (List ℕ)
path_in text = if nat_lt 0 (length text) then Some text else None

-- ---- options

-- what an option says whose value is read so, or that it isn't given
abbrev pub said_by : {X : Type 0} → (List ℕ → Option X) → Option (List ℕ) → Option (Option X)
said_by read None = Some None
said_by read (Some text) = option_map (λ value. Some value) (read text)

-- from when on and until when, if both can be read and are in order
abbrev pub span_by : (since until : Option (Option ℕ)) → Option (Option ℕ × Option ℕ)
span_by since until =
    option_and_then
    (λ first. option_and_then (λ last. if is_in_order first last then Some (first, last) else None) until)
    since

-- where names are from: nowhere; the captures alone; or a file too
abbrev pub names_by : (is_given : Bool) → Option (List ℕ) → Option (Option (List ℕ))
names_by is_given (Some path) = Some (Some path)
names_by true None = Some None
names_by false None = None
