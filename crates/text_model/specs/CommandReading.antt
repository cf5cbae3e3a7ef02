-- The plain reader of a command, in parts: what is made of the fields of one once its word is known.
use Rattle.std.specs.Prelude.{ℕ, List, Result, Ok}
use Rattle.text_model.specs.ScriptLines.{LineFault, ◌>>=◌, decimal_in, payload_in, number_below, cpu_in}
use Rattle.text_model.specs.Script.{Command, deliver, count_in}

-- what a record frame is made of: its CPU, its moment and its payload
unfoldable pub record_in : ℕ → (ℕ → ℕ → List ℕ → Command) → (cpu moment payload : List ℕ) → Result Command LineFault
record_in cpus command cpu_field moment_field payload_field = do
  cpu ← cpu_in cpus cpu_field
  moment ← decimal_in moment_field
  payload ← payload_in payload_field
  Ok (command cpu moment payload)

-- a command of a CPU alone
unfoldable pub of_cpu : ℕ → (ℕ → Command) → List ℕ → Result Command LineFault
of_cpu cpus command cpu_field = do
  cpu ← cpu_in cpus cpu_field
  Ok (command cpu)

-- a command of a CPU and a number of steps
unfoldable pub steps_in : ℕ → (ℕ → ℕ → Command) → (cpu count : List ℕ) → Result Command LineFault
steps_in cpus command cpu_field count_field = do
  cpu ← cpu_in cpus cpu_field
  count ← count_in count_field
  Ok (command cpu count)

-- the fields of `d K cX F`, without the word
unfoldable pub deliver_in : ℕ → ℕ → (collector cpu fill : List ℕ) → Result Command LineFault
deliver_in cpus collectors collector_field cpu_field fill_field = do
  collector ← number_below collectors collector_field
  cpu ← cpu_in cpus cpu_field
  fill ← decimal_in fill_field
  Ok (deliver collector cpu fill)
