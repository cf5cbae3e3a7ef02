-- Why a command line is refused.
use Rattle.std.specs.Prelude.{◌≡◌, ◌==◌, ◌&&◌, ◌||◌, ◌++◌, ◌+◌, ◌<◌, ℕ, Bool, true, false, not, List, [], ◌∷◌, Option}
use Rattle.std.specs.Prelude.{None, Some, bytes_eq, codes, drop, if◌then◌else◌, is_some, take, ⊤}
use Rattle.std.specs.List.{position as first_place}
use Rattle.std.specs.List.{list_all, list_any}
use Rattle.clap.specs.Simple.{Shape}
use Rattle.clap.specs.Words.{Text}
use Rattle.clap.specs.declared.builder.action.ArgAction.{ArgAction}
use Rattle.clap.specs.declared.builder.action.ArgAction.TheVariants.{Append, Set, SetTrue}
use Rattle.command_line.specs.FileWords.{file_word, is_equals, number_in}
use Rattle.command_line.specs.ListWords.{is_cpu_list, is_in_order, moment_in, path_in, pattern_in, pid_list}
use Rattle.command_line.specs.declared.cause.Cause.{Cause}
use Rattle.command_line.specs.declared.cause.Cause.TheVariants.{Unreadable, VersionAndMore, UnknownCommand}
use Rattle.command_line.specs.declared.cause.Cause.TheVariants.{NoSuchOption, Misused}
use Rattle.command_line.specs.declared.cause.Misuse.{Misuse}
use Rattle.command_line.specs.declared.cause.Misuse.TheVariants.{UnknownOption, Valued, NoValue, Twice, Extra, NoFile}
use Rattle.command_line.specs.declared.cause.Misuse.TheVariants.{TooManyFiles, BadValue, Backwards, Conflict}
use Rattle.command_line.specs.declared.cause.Misuse.TheVariants.{RoundAlone, BadCpu, TwoInputs, Other}
use Rattle.command_line.specs.declared.words.TheConstants.{MIN_PAGE, MAX_PAGE, MIN_ROUND, MAX_ROUND}

-- ---- words

-- the command has FILEs
abbrev pub takes_files : Text → Bool
takes_files command = bytes_eq command (codes "collect") || bytes_eq command (codes "recover")

-- the word is one of the commands
abbrev pub is_command : Text → Bool
is_command word = bytes_eq word (codes "replay") || (bytes_eq word (codes "run") || (bytes_eq word (codes "steps")
    || (bytes_eq word (codes "dump") || takes_files word)))

-- `collect` alone has this option, which takes no value
abbrev pub is_collect_flag : (option : Text) → Bool
is_collect_flag option =
    bytes_eq option (codes "--names") || (bytes_eq option (codes "--fields") || (bytes_eq option (codes "--tasks")
    || (bytes_eq option (codes "--symbols") || (bytes_eq option (codes "--parcels")
    || bytes_eq option (codes "--follow")))))

-- `collect` alone has this option, which takes a value
abbrev pub is_collect_valued : (option : Text) → Bool
is_collect_valued option =
    bytes_eq option (codes "--page") || (bytes_eq option (codes "--formats")
    || (bytes_eq option (codes "--tasks-from") || (bytes_eq option (codes "--symbols-from")
    || (bytes_eq option (codes "--instance") || (bytes_eq option (codes "--cpu")
    || (bytes_eq option (codes "--since") || (bytes_eq option (codes "--until")
    || (bytes_eq option (codes "--event") || (bytes_eq option (codes "--pid")
    || bytes_eq option (codes "--round"))))))))))

-- the command has this option, which takes no value
abbrev pub is_flag : (command option : Text) → Bool
is_flag command option =
    (bytes_eq command (codes "replay") && bytes_eq option (codes "--log"))
    || ((takes_files command && bytes_eq option (codes "--json"))
    || (bytes_eq command (codes "collect") && is_collect_flag option))

-- the command has this option, which takes a value
abbrev pub is_valued : (command option : Text) → Bool
is_valued command option =
    (takes_files command && bytes_eq option (codes "--keep"))
    || (bytes_eq command (codes "collect") && is_collect_valued option)

-- the word begins with `-`, and isn't `-` alone
abbrev pub begins_option : Text → Bool
begins_option [] = false
begins_option (byte ∷ []) = false
begins_option (byte ∷ other ∷ bytes) = byte == 45

-- what is before the first `=`, if there is one, and else the whole word
abbrev pub before_place : Text → Option ℕ → Text
before_place word None = word
before_place word (Some at) = take at word

abbrev pub option_name : Text → Text
option_name word = before_place word (first_place is_equals word)

-- the word is an option that the command hasn't
abbrev pub is_unknown : (command word : Text) → Bool
is_unknown command word =
    begins_option word && not (is_flag command (option_name word) || is_valued command (option_name word))

-- the word has a value behind `=`, and the option takes none
abbrev pub has_wrong_value : (command word : Text) → Bool
has_wrong_value command word = is_flag command (option_name word) && not (is_flag command word)

-- what the parse takes of a command is known here: this option of it, by its name, and whether it takes a value
abbrev pub is_known_rule : (command : Text) → Option Text → Option ArgAction → Bool
is_known_rule command (Some name) (Some SetTrue) = is_flag command (codes "--" ++ name)
is_known_rule command (Some name) (Some Set) = is_valued command (codes "--" ++ name)
is_known_rule command None (Some Append) = takes_files command
is_known_rule command name action = false

abbrev pub is_known_shape : Shape → Bool
is_known_shape shape =
    is_command shape.name && list_all (λ rule. is_known_rule shape.name rule.long rule.action) shape.rules

-- ---- the words behind a command

-- the first word before `--` that this is true of
abbrev pub first_option : (Text → Bool) → List Text → Option Text
first_option is [] = None
first_option is (word ∷ words) =
    if bytes_eq word (codes "--") then None else (if is word then Some word else first_option is words)

-- how often the option of this name is before `--`
abbrev pub count_option : (option : Text) → List Text → ℕ
count_option option [] = 0
count_option option (word ∷ words) =
    if bytes_eq word (codes "--") then 0
    else (if bytes_eq (option_name word) option then count_option option words + 1 else count_option option words)

-- The first option before `--` that takes a value, has none behind `=`, and isn't followed by one: another option
-- follows, or `--`, or nothing. The word before these words is such an option, if one is waiting.
abbrev pub without_value : (command : Text) (waiting : Option Text) → List Text → Option Text
without_value command waiting [] = waiting
without_value command waiting (word ∷ words) =
    if begins_option word
    then (if is_some waiting then waiting
    else (if bytes_eq word (codes "--") then None
    else (if is_valued command word then without_value command (Some word) words
    else without_value command None words)))
    else without_value command None words

-- the first of the words is this one
abbrev pub begins_with : (value : Text) → List Text → Bool
begins_with value [] = false
begins_with value (word ∷ words) = bytes_eq word value

-- what is behind the first `=` of a word whose first `=` is at this place, if it has one
abbrev pub behind_place : Text → Option ℕ → Option Text
behind_place word None = None
behind_place word (Some at) = Some (drop (at + 1) word)

-- the word has this value behind its first `=`
abbrev pub is_behind : (value : Text) → Option Text → Bool
is_behind value None = false
is_behind value (Some behind) = bytes_eq behind value

-- the word is the option of this name, then `=`, and then the value
abbrev pub is_joined : (option value word : Text) → Bool
is_joined option value word =
    bytes_eq (option_name word) option && is_behind value (behind_place word (first_place is_equals word))

-- before `--` the option of this name has this value: behind `=`, or as the word that follows
abbrev pub has_value : (option value : Text) → List Text → Bool
has_value option value [] = false
has_value option value (word ∷ words) =
    not (bytes_eq word (codes "--")) && (is_joined option value word
    || ((bytes_eq word option && begins_with value words) || has_value option value words))

-- this is one of the words
abbrev pub has_word : (word : Text) → List Text → Bool
has_word word words = list_any (λ other. bytes_eq other word) words

-- the option can have this value
abbrev pub can_have : (option value : Text) → Bool
can_have option value =
    if bytes_eq option (codes "--page") then is_some (number_in MIN_PAGE MAX_PAGE value)
    else (if bytes_eq option (codes "--round") then is_some (number_in MIN_ROUND MAX_ROUND value)
    else (if bytes_eq option (codes "--cpu") then is_cpu_list value
    else (if bytes_eq option (codes "--since") || bytes_eq option (codes "--until") then is_some (moment_in value)
    else (if bytes_eq option (codes "--event") then is_some (pattern_in value)
    else (if bytes_eq option (codes "--pid") then is_some (pid_list value)
    else (if bytes_eq option (codes "--tasks-from") || bytes_eq option (codes "--symbols-from")
    then is_some (path_in value) else true))))))

-- the words have a first moment that is after the last one
abbrev pub IsBackwards : List Text → Type 0
IsBackwards words =
    (since : Text) × (until : Text) × (has_value (codes "--since") since words ≡ true)
    × (has_value (codes "--until") until words ≡ true) × (is_in_order (moment_in since) (moment_in until) ≡ false)

-- these two options exclude each other
abbrev pub exclude_each_other : (option other : Text) → Bool
exclude_each_other option other =
    bytes_eq option (codes "--follow") && (bytes_eq other (codes "--since") || (bytes_eq other (codes "--until")
    || (bytes_eq other (codes "--instance") || (bytes_eq other (codes "--keep")
    || bytes_eq other (codes "--parcels")))))

-- ---- what is the matter

-- What a misuse says of the words behind the command is true. Of how many FILEs there are, only what the command takes
-- is said.
abbrev pub IsTrueOf : (command : Text) (words : List Text) → Misuse → Type 0
IsTrueOf command words (UnknownOption word) = first_option (is_unknown command) words ≡ Some word.now
IsTrueOf command words (Valued word) = first_option (has_wrong_value command) words ≡ Some word.now
IsTrueOf command words (NoValue word) = without_value command None words ≡ Some word.now
IsTrueOf command words (Twice option) = 1 < count_option option.now words
IsTrueOf command words (Extra word) = (has_word word.now words ≡ true) × (takes_files command ≡ false)
IsTrueOf command words NoFile = takes_files command ≡ true
IsTrueOf command words TooManyFiles = takes_files command ≡ true
IsTrueOf command words (BadValue option value) =
    (has_value option.now value.now words ≡ true) × (can_have option.now value.now ≡ false)
IsTrueOf command words Backwards = IsBackwards words
IsTrueOf command words (Conflict option other) =
    (0 < count_option option.now words) × (0 < count_option other.now words)
    × (exclude_each_other option.now other.now ≡ true)
IsTrueOf command words RoundAlone =
    (0 < count_option (codes "--round") words) × (count_option (codes "--follow") words ≡ 0)
IsTrueOf command words (BadCpu word) =
    (has_word word.now words ≡ true) × ((position : ℕ) × (file_word position word.now ≡ None))
IsTrueOf command words TwoInputs = takes_files command ≡ true
IsTrueOf command words Other = ⊤

-- What a cause says of the word behind the program's name, and of those behind it, is true.
abbrev pub IsCauseAt : (word : Text) (words : List Text) → Cause → Type 0
IsCauseAt word words Unreadable = ⊥
IsCauseAt word words VersionAndMore = bytes_eq word (codes "--version") ≡ true
IsCauseAt word words (UnknownCommand named) = (named.now ≡ word) × (is_command word ≡ false)
IsCauseAt word words (NoSuchOption named) = (named.now ≡ word) × (is_command word ≡ false)
IsCauseAt word words (Misused command misuse) =
    (command.now ≡ word) × (is_command word ≡ true) × IsTrueOf word words misuse

-- What it says of the command line is true.
abbrev pub IsCauseOf : List Text → Cause → Type 0
IsCauseOf [] cause = ⊥
IsCauseOf (first ∷ []) cause = ⊥
IsCauseOf (first ∷ word ∷ words) cause = IsCauseAt word words cause
