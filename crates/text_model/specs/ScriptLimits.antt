-- The limits that every script keeps that a text spells. docs/formats/program.md, "Script".
use Rattle.std.specs.Prelude.{◌≡◌, ℕ, ◌+◌, ◌%◌, ◌^◌, ◌<◌, ◌≤◌, List, All}
use Rattle.trace_model.specs.declared.limits.TheConstants.{MIN_PAGES, MAX_PAGES, MIN_SIZE, MAX_SIZE, START_FILL}
use Rattle.trace_model.specs.declared.limits.TheConstants.{LINK_FILLS}
use Rattle.text_model.specs.declared.script_limits.TheConstants.{SIZE_STEP, MIN_SCRIPT_CPUS, MAX_SCRIPT_CPUS}
use Rattle.text_model.specs.declared.script_limits.TheConstants.{MIN_SCRIPT_COLLECTORS, MAX_SCRIPT_COLLECTORS}
use Rattle.text_model.specs.declared.script_limits.TheConstants.{MIN_LINE_STEPS, MAX_LINE_STEPS}
use Rattle.text_model.specs.Script.{Command, begin_frame, step_frame, finish_frame, write, close, step_reader}
use Rattle.text_model.specs.Script.{take_page, wish, deliver, Script}

-- the CPU is one of `cpus`; the moment fits 64 bits, and the payload is one of bytes
abbrev pub IsRecordWithin : (cpus cpu moment : ℕ) → List ℕ → Type 0
IsRecordWithin cpus cpu moment payload = (cpu < cpus) × (moment < 2 ^ 64) × All (λ byte. byte < 256) payload

-- the CPU is one of `cpus`, and a line may ask for this many steps
abbrev pub AreStepsWithin : (cpus cpu count : ℕ) → Type 0
AreStepsWithin cpus cpu count = (cpu < cpus) × (MIN_LINE_STEPS ≤ count) × (count ≤ MAX_LINE_STEPS)

-- The CPU and the collector that the command names are below these counts, and its numbers are within their limits.
abbrev pub IsCommandWithin : (cpus collectors : ℕ) → Command → Type 0
IsCommandWithin cpus collectors (begin_frame cpu moment payload) = IsRecordWithin cpus cpu moment payload
IsCommandWithin cpus collectors (step_frame cpu count) = AreStepsWithin cpus cpu count
IsCommandWithin cpus collectors (finish_frame cpu) = cpu < cpus
IsCommandWithin cpus collectors (write cpu moment payload) = IsRecordWithin cpus cpu moment payload
IsCommandWithin cpus collectors (close cpu) = cpu < cpus
IsCommandWithin cpus collectors (step_reader cpu count) = AreStepsWithin cpus cpu count
IsCommandWithin cpus collectors (take_page cpu) = cpu < cpus
IsCommandWithin cpus collectors (wish cpu) = cpu < cpus
IsCommandWithin cpus collectors (deliver collector cpu fill) =
    (collector < collectors) × (cpu < cpus) × (fill < 2 ^ 64)

-- the values of the header, and each command, are within their limits
pub record IsWithinLimits (script : Script) : Type 0 where
  pub min_pages : MIN_PAGES ≤ script.pages
  pub max_pages : script.pages ≤ MAX_PAGES
  pub min_size : MIN_SIZE ≤ script.size
  pub max_size : script.size ≤ MAX_SIZE
  pub size_step : script.size % SIZE_STEP ≡ 0
  pub min_cpus : MIN_SCRIPT_CPUS ≤ script.cpus
  pub max_cpus : script.cpus ≤ MAX_SCRIPT_CPUS
  pub min_collectors : MIN_SCRIPT_COLLECTORS ≤ script.collectors
  pub max_collectors : script.collectors ≤ MAX_SCRIPT_COLLECTORS
  pub min_start : START_FILL ≤ script.start
  pub max_start : script.start + script.pages < LINK_FILLS
  pub each_command : All (λ line. IsCommandWithin script.cpus script.collectors line.1) script.commands
