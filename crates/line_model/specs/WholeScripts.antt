-- How many accounts a script has, and how many texts, as statements: one, if no line asks for single steps.
use Rattle.std.specs.Prelude.{◌≡◌, ℕ, ◌≤◌, ⊤, false, List, All, length}
use Rattle.text_model.specs.Script.{Command, begin_frame, step_frame, finish_frame, write, close, step_reader}
use Rattle.text_model.specs.Script.{take_page, wish, deliver, Script}
use Rattle.text_model.specs.ScriptLimits.{IsWithinLimits}
use Rattle.line_model.specs.Accounts.{CpuState, IsAccount}
use Rattle.line_model.specs.Shown.{IsAccounted}

-- the line isn't `s` or `r`
abbrev pub IsWholeLine : Command → Type 0
IsWholeLine (begin_frame cpu moment payload) = ⊤
IsWholeLine (step_frame cpu count) = ⊥
IsWholeLine (finish_frame cpu) = ⊤
IsWholeLine (write cpu moment payload) = ⊤
IsWholeLine (close cpu) = ⊤
IsWholeLine (step_reader cpu count) = ⊥
IsWholeLine (take_page cpu) = ⊤
IsWholeLine (wish cpu) = ⊤
IsWholeLine (deliver collector cpu fill) = ⊤

-- no line asks for single steps
abbrev pub HasWholeLines : Script → Type 0
HasWholeLines script = All (λ line. IsWholeLine line.1) script.commands

-- Two accounts of a CPU are the same, after each of the script's lines.
abbrev pub OneAccount : Type 0
OneAccount = (script : Script) (cpu : ℕ) (one other : ℕ → CpuState)
    → IsWithinLimits script
    → HasWholeLines script
    → IsAccount script cpu one
    → IsAccount script cpu other
    → (k : ℕ)
    → k ≤ length script.commands
    → one k ≡ other k

-- What is printed of a script without its log is one text.
abbrev pub OneText : Type 0
OneText = (script : Script) (bytes others : List ℕ)
    → IsWithinLimits script
    → HasWholeLines script
    → IsAccounted script false bytes
    → IsAccounted script false others
    → bytes ≡ others
