-- The line on standard error that says why a command line is refused.
use Rattle.std.specs.Prelude.{ℕ, ◌++◌, ◌||◌, List, bytes_eq, codes, if◌then◌else◌}
use Rattle.command_line.specs.declared.cause.Cause.{Cause}
use Rattle.command_line.specs.declared.cause.Cause.TheVariants.{Unreadable, VersionAndMore, UnknownCommand}
use Rattle.command_line.specs.declared.cause.Cause.TheVariants.{NoSuchOption, Misused}
use Rattle.command_line.specs.declared.cause.Misuse.{Misuse}
use Rattle.command_line.specs.declared.cause.Misuse.TheVariants.{UnknownOption, Valued, NoValue, Twice, Extra, NoFile}
use Rattle.command_line.specs.declared.cause.Misuse.TheVariants.{TooManyFiles, BadValue, Backwards, Conflict}
use Rattle.command_line.specs.declared.cause.Misuse.TheVariants.{RoundAlone, BadCpu, TwoInputs, Other}

-- what kind of value an option needs
abbrev pub needed_by : (option : List ℕ) → List ℕ
needed_by option =
    if bytes_eq option (codes "--page") then codes "a number from 48 to 65552"
    else (if bytes_eq option (codes "--round") then codes "a number from 1 to 60000"
    else (if bytes_eq option (codes "--cpu") then codes "numbers up to 255 as in 0,2-4"
    else (if bytes_eq option (codes "--since") || bytes_eq option (codes "--until")
    then codes "a number up to 18446744073709551615"
    else (if bytes_eq option (codes "--event") then codes "1 to 256 bytes"
    else (if bytes_eq option (codes "--pid") then codes "numbers up to 2147483647 as in 1,42"
    else codes "a FILE")))))

-- what follows the command in it
abbrev pub misuse_text : Misuse → List ℕ
misuse_text (UnknownOption word) = codes "unknown option " ++ word.now
misuse_text (Valued word) = word.now ++ codes " has a value, and the option takes none"
misuse_text (NoValue word) = word.now ++ codes " needs a value"
misuse_text (Twice option) = option.now ++ codes " is given twice"
misuse_text (Extra word) = codes "unknown word " ++ word.now
misuse_text NoFile = codes "no FILE"
misuse_text TooManyFiles = codes "more than 256 FILEs"
misuse_text (BadValue option value) =
    option.now ++ (codes " needs " ++ (needed_by option.now ++ (codes ", not " ++ value.now)))
misuse_text Backwards = codes "--since is greater than --until"
misuse_text (Conflict option other) = option.now ++ (codes " and " ++ (other.now ++ codes " exclude each other"))
misuse_text RoundAlone = codes "--round needs --follow"
misuse_text (BadCpu word) = codes "the CPU of " ++ (word.now ++ codes " is above 255")
misuse_text TwoInputs = codes "more than one FILE is standard input"
misuse_text Other = codes "these words can't be read"

-- the line
abbrev pub cause_text : Cause → List ℕ
cause_text Unreadable = codes "tracering: a word isn't UTF-8"
cause_text VersionAndMore = codes "tracering: no other word may stand beside --version"
cause_text (UnknownCommand word) = codes "tracering: unknown command " ++ word.now
cause_text (NoSuchOption word) = codes "tracering: unknown option " ++ word.now
cause_text (Misused command misuse) = codes "tracering: " ++ (command.now ++ (codes ": " ++ misuse_text misuse))
