-- What the words of a command line ask for.
use Rattle.std.specs.Prelude.{◌≡◌, ◌⊎◌, ℕ, Bool, true, false, List, [], ◌∷◌, ◌++◌, codes}

-- the flag of `replay`, if the log is asked for
abbrev pub log_flag : Bool → List (List ℕ)
log_flag true = codes "--log" ∷ []
log_flag false = []

-- These options of `replay` ask for its log, or don't. A word `--` may end options.
abbrev pub AreOptions : (log : Bool) → List (List ℕ) → Type 0
AreOptions log options = (options ≡ log_flag log) ⊎ (options ≡ log_flag log ++ codes "--" ∷ [])

-- These words ask for `replay`, with its log or without it. The first is the program's own name, whatever it is.
abbrev pub AskForReplay : (log : Bool) → List (List ℕ) → Type 0
AskForReplay log words = (first : List ℕ)
    × ((options : List (List ℕ)) × (words ≡ first ∷ codes "replay" ∷ options) × AreOptions log options)

-- these words ask for anything else
abbrev pub AskForOther : List (List ℕ) → Type 0
AskForOther words = (log : Bool) → AskForReplay log words → ⊥
