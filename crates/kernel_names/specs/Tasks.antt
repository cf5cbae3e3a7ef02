-- The names of processes, by the lines of the kernel's list of them. After the kernel's
-- kernel/trace/trace_sched_switch.c (saved_cmdlines_show): a line has the number of a process, a space and its name.
use Rattle.std.specs.Prelude.{◌≡◌, ℕ, ℤ, pos, negsuc, ◌^◌, ◌==◌, ◌<◌, ◌++◌, List, [], ◌∷◌, length, take, Option, Some}
use Rattle.std.specs.Prelude.{None, nat_lt, if◌then◌else◌}
use Rattle.std.specs.Option.{option_and_then, option_map, option_or}
use Rattle.std.specs.BTreeMap.{get}
use Rattle.std.specs.Ordering.{nat_cmp}
use Rattle.trace_dat.specs.kernel_texts.Lines.{number_in}
use Rattle.event_fields.specs.Texts.{cut_at}
use Rattle.kernel_names.specs.declared.tasks.TaskNames.{TaskNames}

-- the number of a process that a text spells in decimal
unfoldable pub pid_in : List ℕ → Option ℕ
pid_in text = option_and_then (λ n. if nat_lt n (2 ^ 31) then Some n else None) (number_in text)

-- the process and the name of a line: they are before its first space, and after it
unfoldable pub task_in : List ℕ → Option (ℕ × List ℕ)
task_in line =
    option_and_then (λ parts. option_map (λ pid. (pid, parts.1)) (pid_in parts.0)) (cut_at 32 line)

-- the name of a line, if it is of this process
abbrev pub name_under : ℕ → Option (ℕ × List ℕ) → Option (List ℕ)
name_under pid None = None
name_under pid (Some task) = if task.0 == pid then Some task.1 else None

-- The name of a process: that of the last line of it.
abbrev pub task_by : ℕ → List (List ℕ) → Option (List ℕ)
task_by pid [] = None
task_by pid (line ∷ lines) = option_or (task_by pid lines) (name_under pid (task_in line))

-- the name that is known of a process
abbrev pub known_name : TaskNames → ℕ → Option (List ℕ)
known_name names pid = option_map (λ name. name.items) (get nat_cmp names.names pid)

-- what is known of each process is the name that these lines give it
abbrev pub HasTasks : TaskNames → List (List ℕ) → Type 0
HasTasks names lines = (pid : ℕ) → known_name names pid ≡ task_by pid lines

-- of further lines the first ones are known, and not all
abbrev pub HasTasksOfSome : TaskNames → (known further : List (List ℕ)) → Type 0
HasTasksOfSome names known further =
    (count : ℕ) × (count < length further) × HasTasks names (known ++ take count further)

-- the name that is known of a process by a signed number: none has one below 0
abbrev pub name_known : TaskNames → ℤ → Option (List ℕ)
name_known names (pos pid) = known_name names pid
name_known names (negsuc n) = None
