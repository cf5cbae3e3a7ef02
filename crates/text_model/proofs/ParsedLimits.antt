-- What a text spells is within the limits: commands, scripts.
use Rattle.std.proofs.Common.{ℕ, ◌+◌, ◌-◌, ◌<◌, ◌≤◌, Bool, true, false, ◌&&◌, cond, leb, List, [], ◌∷◌, Result, Ok}
use Rattle.std.proofs.Common.{arith}
use Rattle.std.specs.List.{AllByRecursion}
use Rattle.std.specs.Prelude.{codes}
use Rattle.std.specs.Result.{IfOk}
use Rattle.std.specs.Str.{bytes_eq}
use Rattle.std.proofs.lemmas.Bool.{leb-true, and_parts}
use Rattle.std.proofs.lemmas.List.Elements.{All-from_recursion}
use Rattle.std.proofs.lemmas.Result.{IfOk-at_ok}
use Rattle.trace_model.specs.declared.limits.TheConstants.{MAX_PAGES, LINK_FILLS}
use Rattle.text_model.specs.Text.{fields_of, is_well_spaced}
use Rattle.text_model.specs.ScriptLines.{LineFault, bad_line, out_of_range, decimal_in, payload_in, number_below}
use Rattle.text_model.specs.ScriptLines.{cpu_in, NumberedLine, significant_lines}
use Rattle.text_model.specs.declared.script_limits.TheConstants.{MIN_LINE_STEPS, MAX_LINE_STEPS}
use Rattle.text_model.specs.Script.{Command, begin_frame, step_frame, finish_frame, write, close, step_reader}
use Rattle.text_model.specs.Script.{take_page, wish, Script, count_in, command_of, command_in, header_settings}
use Rattle.text_model.specs.Script.{start_setting, GivesStart, SpellCommands, SpellScript, ParsesScript}
use Rattle.text_model.specs.CommandReading.{record_in, of_cpu, steps_in, deliver_in}
use Rattle.text_model.specs.ScriptLimits.{IsRecordWithin, AreStepsWithin, IsCommandWithin, IsWithinLimits}
use Rattle.text_model.proofs.FieldLimits.{tested-within, then-within, Is64Bit, decimal_in-within, number_below-within}
use Rattle.text_model.proofs.FieldLimits.{cpu_in-within, AreBytes, payload_in-within, IsAllowed, value_in-within}
use Rattle.text_model.proofs.FieldLimits.{settings-within}

-- ---- commands

-- a line may ask for this many steps
abbrev IsCount : ℕ → Type 0
IsCount n = (MIN_LINE_STEPS ≤ n) × (n ≤ MAX_LINE_STEPS)

count_in-within : (field : List ℕ) → IfOk (count_in field) IsCount
unfolding count_in
count_in-within field =
    then-within Is64Bit IsCount (decimal_in field) _ (decimal_in-within field) (λ n small.
    tested-within IsCount (leb MIN_LINE_STEPS n && leb n MAX_LINE_STEPS) (Ok n) out_of_range (λ h.
    let parts = and_parts _ _ h in (leb-true MIN_LINE_STEPS n parts.0, leb-true n MAX_LINE_STEPS parts.1)))

record_in-within : (cpus collectors : ℕ) (make : ℕ → ℕ → List ℕ → Command)
    (cpu_field moment_field payload_field : List ℕ)
    → ((cpu moment : ℕ) (payload : List ℕ) → IsRecordWithin cpus cpu moment payload
    → IsCommandWithin cpus collectors (make cpu moment payload))
    → IfOk (record_in cpus make cpu_field moment_field payload_field) (IsCommandWithin cpus collectors)
unfolding record_in
record_in-within cpus collectors make cpu_field moment_field payload_field made =
    then-within (λ cpu. cpu < cpus) (IsCommandWithin cpus collectors) (cpu_in cpus cpu_field) _
    (cpu_in-within cpus cpu_field) (λ cpu here.
    then-within Is64Bit (IsCommandWithin cpus collectors) (decimal_in moment_field) _ (decimal_in-within moment_field)
    (λ moment small.
    then-within AreBytes (IsCommandWithin cpus collectors) (payload_in payload_field) _
    (payload_in-within payload_field) (λ payload bytes. made cpu moment payload (here, small, bytes))))

of_cpu-within : (cpus collectors : ℕ) (make : ℕ → Command) (cpu_field : List ℕ)
    → ((cpu : ℕ) → cpu < cpus → IsCommandWithin cpus collectors (make cpu))
    → IfOk (of_cpu cpus make cpu_field) (IsCommandWithin cpus collectors)
unfolding of_cpu
of_cpu-within cpus collectors make cpu_field made =
    then-within (λ cpu. cpu < cpus) (IsCommandWithin cpus collectors) (cpu_in cpus cpu_field) _
    (cpu_in-within cpus cpu_field) (λ cpu here. made cpu here)

steps_in-within : (cpus collectors : ℕ) (make : ℕ → ℕ → Command) (cpu_field count_field : List ℕ)
    → ((cpu count : ℕ) → AreStepsWithin cpus cpu count → IsCommandWithin cpus collectors (make cpu count))
    → IfOk (steps_in cpus make cpu_field count_field) (IsCommandWithin cpus collectors)
unfolding steps_in
steps_in-within cpus collectors make cpu_field count_field made =
    then-within (λ cpu. cpu < cpus) (IsCommandWithin cpus collectors) (cpu_in cpus cpu_field) _
    (cpu_in-within cpus cpu_field) (λ cpu here.
    then-within IsCount (IsCommandWithin cpus collectors) (count_in count_field) _ (count_in-within count_field)
    (λ count asked. made cpu count (here, asked.0, asked.1)))

deliver_in-within : (cpus collectors : ℕ) (collector_field cpu_field fill_field : List ℕ)
    → IfOk (deliver_in cpus collectors collector_field cpu_field fill_field) (IsCommandWithin cpus collectors)
unfolding deliver_in
deliver_in-within cpus collectors collector_field cpu_field fill_field =
    then-within (λ collector. collector < collectors) (IsCommandWithin cpus collectors)
    (number_below collectors collector_field) _ (number_below-within collectors collector_field) (λ collector known.
    then-within (λ cpu. cpu < cpus) (IsCommandWithin cpus collectors) (cpu_in cpus cpu_field) _
    (cpu_in-within cpus cpu_field) (λ cpu here.
    then-within Is64Bit (IsCommandWithin cpus collectors) (decimal_in fill_field) _ (decimal_in-within fill_field)
    (λ fill small. (known, here, small))))

-- where both answers are within, so is the one that a test chooses
either-within : {A : Type 0} (P : A → Type 0) (test : Bool) (r s : Result A LineFault) → IfOk r P → IfOk s P
    → IfOk (cond test r s) P
either-within P true r s h k = h
either-within P false r s h k = k

command_of-within : (cpus collectors : ℕ) (fields : List (List ℕ))
    → IfOk (command_of cpus collectors fields) (IsCommandWithin cpus collectors)
unfolding command_of of_cpu steps_in record_in deliver_in
command_of-within cpus collectors [] = tt
command_of-within cpus collectors (first ∷ []) = tt
command_of-within cpus collectors (first ∷ second ∷ []) =
    let Within : Command → Type 0 = IsCommandWithin cpus collectors in
    either-within Within (bytes_eq second (codes "f")) _ _
    (of_cpu-within cpus collectors finish_frame first (λ cpu here. here))
    (either-within Within (bytes_eq second (codes "c")) _ _
    (of_cpu-within cpus collectors close first (λ cpu here. here))
    (either-within Within (bytes_eq second (codes "t")) _ _
    (of_cpu-within cpus collectors take_page first (λ cpu here. here))
    (either-within Within (bytes_eq second (codes "a")) _ _
    (of_cpu-within cpus collectors wish first (λ cpu here. here)) tt)))
command_of-within cpus collectors (first ∷ second ∷ third ∷ []) =
    let Within : Command → Type 0 = IsCommandWithin cpus collectors in
    either-within Within (bytes_eq second (codes "s")) _ _
    (steps_in-within cpus collectors step_frame first third (λ cpu count asked. asked))
    (either-within Within (bytes_eq second (codes "r")) _ _
    (steps_in-within cpus collectors step_reader first third (λ cpu count asked. asked)) tt)
command_of-within cpus collectors (first ∷ second ∷ third ∷ fourth ∷ []) =
    let Within : Command → Type 0 = IsCommandWithin cpus collectors in
    either-within Within (bytes_eq first (codes "d")) _ _ (deliver_in-within cpus collectors second third fourth)
    (either-within Within (bytes_eq second (codes "b")) _ _
    (record_in-within cpus collectors begin_frame first third fourth (λ cpu moment payload made. made))
    (either-within Within (bytes_eq second (codes "w")) _ _
    (record_in-within cpus collectors write first third fourth (λ cpu moment payload made. made)) tt))
command_of-within cpus collectors (first ∷ second ∷ third ∷ fourth ∷ fifth ∷ fields) = tt

command_in-within : (cpus collectors : ℕ) (line : List ℕ)
    → IfOk (command_in cpus collectors line) (IsCommandWithin cpus collectors)
unfolding command_in
command_in-within cpus collectors line =
    tested-within (IsCommandWithin cpus collectors) (is_well_spaced (fields_of line)) _ bad_line
    (λ h. command_of-within cpus collectors (fields_of line))

commands-within : (cpus collectors : ℕ) (lines : List NumberedLine) (commands : List (ℕ × Command))
    → SpellCommands cpus collectors lines commands
    → AllByRecursion (λ line. IsCommandWithin cpus collectors line.1) commands
commands-within cpus collectors [] [] h = tt
commands-within cpus collectors (line ∷ lines) (command ∷ commands) h = (
  IfOk-at_ok (IsCommandWithin cpus collectors) h.0 (command_in-within cpus collectors line.1),
  commands-within cpus collectors lines commands h.2,
)
commands-within cpus collectors [] (command ∷ commands) h = absurd h
commands-within cpus collectors (line ∷ lines) [] h = absurd h

-- ---- the start line

start-within : (pages : ℕ) (lines : List NumberedLine) (start : ℕ) → pages ≤ MAX_PAGES → GivesStart pages lines start
    → start + pages < LINK_FILLS
start-within pages [] start few h = omega (arith, h)
start-within pages (line ∷ []) start few h =
    let allowed = IfOk-at_ok (IsAllowed (start_setting pages)) h (value_in-within (start_setting pages) line.1) in
    let high : start ≤ LINK_FILLS - 1 - pages = allowed.max in
    omega (arith, high)
start-within pages (line ∷ next ∷ lines) start few h = absurd h

-- ---- the script

pub SpellScript-within : (lines : List NumberedLine) (script : Script) → SpellScript lines script
    → IsWithinLimits script
SpellScript-within lines script h =
    let values =
    settings-within h.header header_settings
    (script.pages ∷ script.size ∷ script.cpus ∷ script.collectors ∷ []) h.settings in
    let pages = values.0 in
    let size = values.1.0 in
    let cpus = values.1.1.0 in
    let collectors = values.1.1.1.0 in
    record {
      min_pages = pages.min;
      max_pages = pages.max;
      min_size = size.min;
      max_size = size.max;
      size_step = size.step;
      min_cpus = cpus.min;
      max_cpus = cpus.max;
      min_collectors = collectors.min;
      max_collectors = collectors.max;
      min_start = omega arith;
      max_start = start-within script.pages h.start_line script.start pages.max h.start;
      each_command =
          All-from_recursion (λ line. IsCommandWithin script.cpus script.collectors line.1) script.commands
          (commands-within script.cpus script.collectors h.behind script.commands h.commands);
    }

pub ParsesScript-within : (text : List ℕ) (script : Script) → ParsesScript text script → IsWithinLimits script
ParsesScript-within text script h = SpellScript-within (significant_lines text) script h
