-- How the words of `collect` and `recover` are read.
use Rattle.std.specs.Prelude.{◌≡◌, ℕ, ◌-◌, ◌==◌, ◌&&◌, Bool, false, List, [], ◌∷◌, Option, Some, None, length, nat_lt}
use Rattle.std.specs.Prelude.{nat_le, if◌then◌else◌, option_map, option_and_then, ◌+◌, take, drop}
use Rattle.std.specs.Char.{is_ascii_digit}
use Rattle.std.specs.List.{list_all, position as first_place}
use Rattle.std.specs.Str.Parse.{digits_value}
use Rattle.trace_model.specs.declared.limits.TheConstants.{MAX_CPUS}
use Rattle.command_line.specs.declared.words.TheConstants.{MAX_FILES}

-- the text is a number in decimal digits, one at least
abbrev pub is_number : List ℕ → Bool
is_number text = nat_lt 0 (length text) && list_all is_ascii_digit text

-- the number that a text is, if it is one from `low` to `high`
abbrev pub number_in : (low high : ℕ) (text : List ℕ) → Option ℕ
number_in low high text =
    if is_number text && (nat_le low (digits_value 10 text) && nat_le (digits_value 10 text) high)
    then Some (digits_value 10 text) else None

-- the byte `=`
abbrev pub is_equals : ℕ → Bool
is_equals byte = byte == 61

-- `before` is what is before the word's first byte of this kind, and `after` what is after it
abbrev pub IsSplitAt : (is_byte : ℕ → Bool) (word before after : List ℕ) → Type 0
IsSplitAt is_byte word before after =
    (at : ℕ) × (first_place is_byte word ≡ Some at) × (before ≡ take at word) × (after ≡ drop (at + 1) word)

-- the CPU and the path of a FILE whose first `=` is at this place, if it has one
abbrev pub file_split : (position : ℕ) (word : List ℕ) → Option ℕ → Option (ℕ × List ℕ)
file_split position word None = Some (position, word)
file_split position word (Some at) =
    if is_number (take at word)
    then option_map (λ cpu. (cpu, drop (at + 1) word)) (number_in 0 (MAX_CPUS - 1) (take at word))
    else Some (position, word)

-- The CPU and the path of a FILE: `CPU=PATH` says both, if there are digits alone before the first `=`; every other
-- word is a path, of the CPU of its position. There is none if the CPU is too high.
abbrev pub file_word : (position : ℕ) (word : List ℕ) → Option (ℕ × List ℕ)
file_word position word = file_split position word (first_place is_equals word)

-- what an option says that has a number from `low` to `high`: this number, or that the option isn't given
abbrev pub number_word : (low high : ℕ) → Option (List ℕ) → Option (Option ℕ)
number_word low high None = Some None
number_word low high (Some text) = option_map (λ number. Some number) (number_in low high text)

-- the CPUs and paths of all FILEs, from this position on, if each has them
abbrev pub file_words : (position : ℕ) (words : List (List ℕ)) → Option (List (ℕ × List ℕ))
file_words position [] = Some []
file_words position (word ∷ words) =
    option_and_then (λ file. option_map (λ files. file ∷ files) (file_words (position + 1) words))
    (file_word position word)

-- the path `-` is standard input
abbrev pub is_input : List ℕ → Bool
is_input (byte ∷ []) = byte == 45
is_input [] = false
is_input (byte ∷ other ∷ bytes) = false

-- how many files are standard input
abbrev pub count_inputs : List (ℕ × List ℕ) → ℕ
count_inputs [] = 0
count_inputs (file ∷ files) = if is_input file.1 then count_inputs files + 1 else count_inputs files

-- the files, if standard input is one of them at most
abbrev pub with_one_input : List (ℕ × List ℕ) → Option (List (ℕ × List ℕ))
with_one_input files = if nat_le (count_inputs files) 1 then Some files else None

-- The CPUs and paths of all FILEs of a call, if each has them. There is one FILE at least, at most as many as there
-- can be CPUs, and standard input once at most.
abbrev pub file_list : (words : List (List ℕ)) → Option (List (ℕ × List ℕ))
file_list words =
    if nat_lt 0 (length words) && nat_le (length words) MAX_CPUS
    then option_and_then with_one_input (file_words 0 words) else None

-- ---- the paths of regions

-- how many paths are standard input
abbrev pub count_input_paths : List (List ℕ) → ℕ
count_input_paths [] = 0
count_input_paths (path ∷ paths) = if is_input path then count_input_paths paths + 1 else count_input_paths paths

-- The paths of a call of `recover`: all FILEs as they are, one at least and MAX_FILES at most, standard input once at
-- most.
abbrev pub path_list : (words : List (List ℕ)) → Option (List (List ℕ))
path_list words =
    if nat_lt 0 (length words) && (nat_le (length words) MAX_FILES && nat_le (count_input_paths words) 1)
    then Some words else None
