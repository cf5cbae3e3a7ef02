-- The program's command line as `clap` parses it.
use Rattle.std.specs.Prelude.{◌≡◌, ◌≢◌, Bool, List, [], ◌∷◌, Option, None, Some, Result, Ok, Err, true, false, codes}
use Rattle.std.specs.Prelude.{bytes_eq, not, ◌&&◌, ◌||◌, ◌⊎◌, option_and_then, option_map, ⊤}
use Rattle.clap.specs.Words.{App, Row, Rule, Text, fault_of, new_app, new_rule, one_of, subcommand_of, with_rule}
use Rattle.clap.specs.Words.{with_subcommand}
use Rattle.clap.specs.declared.builder.action.ArgAction.TheVariants.{Append, Set, SetTrue}
use Rattle.clap.specs.declared.error.ErrorKind.{ErrorKind}
use Rattle.clap.specs.declared.error.ErrorKind.TheVariants.{OutOfMemory}
use Rattle.command_line.specs.declared.call.Call.{Call}
use Rattle.command_line.specs.declared.call.Call.TheVariants.{Replay, Run, Steps, Dump, Collect, Recover, Version, Help}
use Rattle.command_line.specs.Calls.{AreApart, AreUnread, AsksFor, AsksToRecover, asked_of, goes_together}
use Rattle.command_line.specs.Calls.{recovering_of, regions_matched}
use Rattle.command_line.specs.declared.call.CollectCall.{CollectCall}
use Rattle.command_line.specs.declared.call.RecoverCall.{RecoverCall}
use Rattle.command_line.specs.declared.call.CallFault.{CallFault}
use Rattle.command_line.specs.declared.call.CallFault.TheVariants.{Usage, NoMemory}

-- a flag of this name, as `--log`
abbrev pub flag_rule : Text → Rule
flag_rule name = record (new_rule name) { long = Some name; action = Some SetTrue }

-- an option of this name that takes a value, as `--page`
abbrev pub option_rule : Text → Rule
option_rule name = record (new_rule name) { long = Some name; action = Some Set }

-- the values without a name, one at least
abbrev pub values_rule : Text → Rule
values_rule name = record (new_rule name) { required = true; action = Some Append }

-- the program with its first command, `replay`, which takes `--log`
abbrev pub first_command : App
first_command =
    let replay = with_rule (new_app (codes "replay")) (flag_rule (codes "log")) in
    with_subcommand (new_app (codes "tracering")) replay.top

-- and with the two others that carry out a script, `run` and `steps`
abbrev pub script_commands : App
script_commands =
    let run = new_app (codes "run") in
    let steps = new_app (codes "steps") in
    with_subcommand (with_subcommand first_command run.top) steps.top

-- and with its fourth command, `dump`
abbrev pub image_commands : App
image_commands =
    let dump = new_app (codes "dump") in
    with_subcommand script_commands dump.top

-- the command `collect`, with what says how its files are read
abbrev pub reading_options : App
reading_options =
    let paged = with_rule (new_app (codes "collect")) (option_rule (codes "page")) in
    let named = with_rule paged (flag_rule (codes "names")) in
    let fielded = with_rule named (flag_rule (codes "fields")) in
    with_rule fielded (option_rule (codes "formats"))

-- and with what asks for names beside numbers
abbrev pub naming_options : App
naming_options =
    let tasked = with_rule reading_options (flag_rule (codes "tasks")) in
    let listed = with_rule tasked (option_rule (codes "tasks-from")) in
    let symbolic = with_rule listed (flag_rule (codes "symbols")) in
    with_rule symbolic (option_rule (codes "symbols-from"))

-- and with what says from where and when the records are
abbrev pub span_options : App
span_options =
    let placed = with_rule naming_options (option_rule (codes "instance")) in
    let marked = with_rule placed (option_rule (codes "cpu")) in
    let begun = with_rule marked (option_rule (codes "since")) in
    with_rule begun (option_rule (codes "until"))

-- and with what says which events and processes they are of
abbrev pub part_options : App
part_options = with_rule (with_rule span_options (option_rule (codes "event"))) (option_rule (codes "pid"))

-- and with its other options and flags
abbrev pub collect_options : App
collect_options =
    let kept = with_rule (with_rule part_options (flag_rule (codes "json"))) (option_rule (codes "keep")) in
    with_rule kept (flag_rule (codes "parcels"))

-- and with what says that its files are read while they are written
abbrev pub follow_options : App
follow_options = with_rule (with_rule collect_options (flag_rule (codes "follow"))) (option_rule (codes "round"))

-- and with its files
abbrev pub collect_command : App
collect_command = with_rule follow_options (values_rule (codes "file"))

-- the program with its fifth command, `collect`
abbrev pub collect_commands : App
collect_commands = with_subcommand image_commands collect_command.top

-- the command `recover`, with its flag, its option and its files
abbrev pub recover_command : App
recover_command =
    let flagged = with_rule (new_app (codes "recover")) (flag_rule (codes "json")) in
    let kept = with_rule flagged (option_rule (codes "keep")) in
    with_rule kept (values_rule (codes "file"))

-- the program with its sixth command, `recover`
abbrev pub command_line : App
command_line = with_subcommand collect_commands recover_command.top

-- the parse accepts the words
abbrev pub IsAccepted : List Text → Type 0
IsAccepted words = fault_of command_line words ≡ []

-- the command that the words name
unfoldable pub names_command : List Text → Option Text
names_command words = option_map (λ p. p.0) (subcommand_of command_line words)

-- the text of `--log` among the matches of a command
abbrev pub flag_text : Option (Text × List Row) → Option Text
flag_text matched = option_and_then (λ p. one_of (codes "log") p.1) matched

-- whether `--log` is among the words after the command, as text: `true` or `false`
unfoldable pub log_text : List Text → Option Text
log_text words = flag_text (subcommand_of command_line words)

-- the matches of the command that was found, none if none was
abbrev pub rows_found : Option (Text × List Row) → List Row
rows_found None = []
rows_found (Some found) = found.1

-- the matches of the command that the words name
unfoldable pub rows_named : List Text → List Row
rows_named words = rows_found (subcommand_of command_line words)

-- the word by which a call is asked for
abbrev pub name_of : Call → Text
name_of (Replay log) = codes "replay"
name_of Run = codes "run"
name_of Steps = codes "steps"
name_of Dump = codes "dump"
name_of (Collect call) = codes "collect"
name_of (Recover call) = codes "recover"
name_of Version = codes "--version"
name_of Help = codes "--help"

-- the command that is called reads one source; `collect` and `recover` have files of their own, and the version and the
-- help are printed without any
abbrev pub HasSource : Call → Type 0
HasSource (Collect call) = ⊥
HasSource (Recover call) = ⊥
HasSource Version = ⊥
HasSource Help = ⊥
HasSource _ = ⊤

-- What the parse makes of the words: the command and what else it finds, if it accepts the words; if it doesn't, or
-- finds no command, or what it finds for `collect` or `recover` can't be read or doesn't go together, the usage line.
-- Memory is refused at any of them.
pub record IsParseOf (words : List Text) (result : Result Call CallFault) : Type 0 where
  pub no_version : result ≢ Ok Version
  pub no_help : result ≢ Ok Help
  pub accepted : (call : Call) → result ≡ Ok call → IsAccepted words
  pub named : (call : Call) → result ≡ Ok call → names_command words ≡ Some (name_of call)
  pub log : log_text words ≡ Some (codes "true") → result ≢ Ok (Replay false)
  pub no_log : log_text words ≡ Some (codes "false") → result ≢ Ok (Replay true)
  pub no_replay : result ≡ Err Usage → IsAccepted words → names_command words ≢ Some (codes "replay")
  pub no_run : result ≡ Err Usage → IsAccepted words → names_command words ≢ Some (codes "run")
  pub no_steps : result ≡ Err Usage → IsAccepted words → names_command words ≢ Some (codes "steps")
  pub no_dump : result ≡ Err Usage → IsAccepted words → names_command words ≢ Some (codes "dump")
  pub collect : (call : CollectCall) → result ≡ Ok (Collect call) → AsksFor (rows_named words) (asked_of call)
  pub together : (call : CollectCall) → result ≡ Ok (Collect call) → goes_together (asked_of call) ≡ true
  pub no_collect : result ≡ Err Usage → IsAccepted words → names_command words ≡ Some (codes "collect")
      → AreUnread (rows_named words) ⊎ AreApart (rows_named words)
  pub recover : (call : RecoverCall) → result ≡ Ok (Recover call)
      → AsksToRecover (rows_named words) (recovering_of call)
  pub no_recover : result ≡ Err Usage → IsAccepted words → names_command words ≡ Some (codes "recover")
      → regions_matched (rows_named words) ≡ None

-- whether the words ask for the version: one word follows the program's name, and it is `--version`
abbrev pub is_version : List Text → Bool
is_version (first ∷ word ∷ []) = bytes_eq word (codes "--version")
is_version [] = false
is_version (first ∷ []) = false
is_version (first ∷ word ∷ other ∷ words) = false

-- a word by which help is asked for
abbrev pub is_help_word : Text → Bool
is_help_word word = bytes_eq word (codes "--help") || bytes_eq word (codes "-h")

-- whether there is one of them among these words, before `--`, which ends options
abbrev pub has_help_word : List Text → Bool
has_help_word [] = false
has_help_word (word ∷ words) = not (bytes_eq word (codes "--")) && (is_help_word word || has_help_word words)

-- whether the first of these words is `help`
abbrev pub begins_with_help : List Text → Bool
begins_with_help [] = false
begins_with_help (word ∷ words) = bytes_eq word (codes "help")

-- whether the words ask for help: behind the program's name is the word `help`, or anywhere before `--` there is
-- `--help` or `-h`; what else there is doesn't matter
abbrev pub is_help : List Text → Bool
is_help [] = false
is_help (first ∷ words) = begins_with_help words || has_help_word words

-- What the program makes of its words: the version or the help, for which no memory is needed, if they ask for it; and
-- else what the parse makes of them.
pub record IsCallOf (words : List Text) (result : Result Call CallFault) : Type 0 where
  pub version : is_version words ≡ true → result ≡ Ok Version
  pub help : is_help words ≡ true → result ≡ Ok Help
  pub parsed : is_version words ≡ false → is_help words ≡ false → IsParseOf words result

-- the parse fails because memory was refused, or at the words
abbrev pub fault_of_kind : ErrorKind → CallFault
fault_of_kind OutOfMemory = NoMemory
fault_of_kind _ = Usage
