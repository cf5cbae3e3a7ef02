-- Lines that are read from a text's beginning up to their line feed.
use Rattle.std.specs.Prelude.{◌≡◌, ℕ, ◌<◌, true, List, ◌∷◌, ◌++◌, length, Ok}
use Rattle.text_model.specs.Text.{lines_of}
use Rattle.text_model.specs.ScriptLines.{decimal_in, payload_in, cpu_in, is_significant}
use Rattle.text_model.specs.Script.{Command, command_in}
use Rattle.trace_script.specs.declared.values.NumberCut.{NumberCut}
use Rattle.trace_script.specs.declared.usual.UsualLine.{UsualLine}
use Rattle.trace_script.specs.Kept.{shown}

-- the text begins with a field that spells this number; the byte end follows it, then the rest
pub record IsNumberCut (text : List ℕ) (end : ℕ) (cut : NumberCut) : Type 0 where
  pub digits : List ℕ
  pub are : text ≡ digits ++ end ∷ cut.rest.now
  pub spells : decimal_in digits ≡ Ok cut.number

-- the text begins with a field that names one of these CPUs; a space follows it, then the rest
pub record IsCpuCut (cpus : ℕ) (text : List ℕ) (cut : NumberCut) : Type 0 where
  pub field : List ℕ
  pub are : text ≡ field ++ 32 ∷ cut.rest.now
  pub spells : cpu_in cpus field ≡ Ok cut.number
  pub small : cut.number < cpus

-- The text begins with a field that spells a payload; a line feed follows it, then the rest. The payload's bytes were
-- appended to old.
pub record IsPayloadCut (text rest old new : List ℕ) : Type 0 where
  pub field : List ℕ
  pub payload : List ℕ
  pub are : text ≡ field ++ 10 ∷ rest
  pub spells : payload_in field ≡ Ok payload
  pub put : new ≡ old ++ payload

-- the first line of the text spells this command, and the rest follows that line
pub record BeginsWith (cpus collectors : ℕ) (text rest : List ℕ) (command : Command) : Type 0 where
  pub line : List ℕ
  pub lines : lines_of text ≡ line ∷ lines_of rest
  pub significant : is_significant line ≡ true
  pub spells : command_in cpus collectors line ≡ Ok command
  pub shorter : length rest < length text

-- with the name of this CPU and a space before it, whatever the name, the text's first line spells this command
abbrev pub BeginsBehindCpu : ℕ → ℕ → ℕ → (text rest : List ℕ) → Command → Type 0
BeginsBehindCpu cpus collectors cpu text rest command = (field : List ℕ) → cpu_in cpus field ≡ Ok cpu
    → BeginsWith cpus collectors (field ++ 32 ∷ text) rest command

-- a line that was read with its payload, which was appended to old
abbrev pub IsUsual : ℕ → ℕ → (text old new : List ℕ) → UsualLine → Type 0
IsUsual cpus collectors text old new line = (payload : List ℕ)
    × (new ≡ old ++ payload)
    × BeginsWith cpus collectors text line.rest.now (shown payload line.order)

-- what follows the name of a CPU and a space was read with its payload, which was appended to old
abbrev pub IsUsualBehindCpu : ℕ → ℕ → ℕ → (text old new : List ℕ) → UsualLine → Type 0
IsUsualBehindCpu cpus collectors cpu text old new line = (payload : List ℕ)
    × (new ≡ old ++ payload)
    × BeginsBehindCpu cpus collectors cpu text line.rest.now (shown payload line.order)
