-- What the commands `collect` and `recover` are asked for, and what the matches of their words say of that.
use Rattle.std.specs.Prelude.{◌≡◌, ◌≤◌, ◌<◌, ◌⊎◌, ◌||◌, ℕ, ℤ, All, Bool, true, false, not, List, Option, None, Some}
use Rattle.std.specs.Prelude.{Result, Ok, Err, IfSome, codes, if◌then◌else◌, is_some, length, map, option_and_then}
use Rattle.std.specs.Prelude.{option_map, ⊤}
use Rattle.trace_model.specs.declared.limits.TheConstants.{MAX_CPUS}
use Rattle.clap.specs.Words.{Row, Text, all_of, first_of, one_of}
use Rattle.command_line.specs.FileWords.{file_list, number_word, path_list}
use Rattle.command_line.specs.ListWords.{cpu_list, is_in_order, moment_in, names_by, path_in, pattern_in, pid_list}
use Rattle.command_line.specs.ListWords.{said_by, span_by}
use Rattle.command_line.specs.declared.call.Call.{Call}
use Rattle.command_line.specs.declared.call.Call.TheVariants.{Replay, Run, Steps, Dump, Collect, Recover, Version, Help}
use Rattle.command_line.specs.declared.call.CallFault.{CallFault}
use Rattle.command_line.specs.declared.call.CallFault.TheVariants.{Usage, NoMemory}
use Rattle.command_line.specs.declared.call.CollectCall.{CollectCall}
use Rattle.command_line.specs.declared.call.CpuFile.{CpuFile}
use Rattle.command_line.specs.declared.call.NamesFrom.{NamesFrom}
use Rattle.command_line.specs.declared.call.NamesFrom.TheVariants.{Captures, File}
use Rattle.command_line.specs.declared.call.RecoverCall.{RecoverCall}
use Rattle.command_line.specs.declared.values.TheConstants.{MAX_PATTERN}
use Rattle.command_line.specs.declared.words.TheConstants.{DEFAULT_PAGE, DEFAULT_ROUND, MIN_PAGE, MIN_ROUND}
use Rattle.command_line.specs.declared.words.TheConstants.{MAX_PAGE, MAX_ROUND}

-- a FILE's CPU and path
abbrev pub file_seen : CpuFile → ℕ × List ℕ
file_seen file = (file.cpu.0, file.path.now)

-- where names are from: the captures alone, or a file too
abbrev pub names_seen : NamesFrom → Option Text
names_seen Captures = None
names_seen (File path) = Some path.now

-- What `collect` is asked for: the bytes of a page, if they were said; whether names, whether fields and whether
-- objects are printed; whether names of processes and of functions are, and from which file besides the captures; the
-- folder of formats; which instance, CPUs, moments, events and processes are listed; the file for new pieces of
-- streams; whether pieces are printed; whether the files are followed, and the milliseconds of a round, if they were
-- said; and the CPU and the path of each file.
pub record Asked : Type 0 where
  pub page : Option ℕ
  pub names : Bool
  pub fields : Bool
  pub tasks : Option (Option Text)
  pub symbols : Option (Option Text)
  pub json : Bool
  pub formats : Option Text
  pub instance : Option Text
  pub cpus : Option (List Bool)
  pub since : Option ℕ
  pub until : Option ℕ
  pub event : Option Text
  pub pids : Option (List ℤ)
  pub keep : Option Text
  pub parcels : Bool
  pub follow : Bool
  pub round : Option ℕ
  pub files : List (ℕ × Text)

-- what it is asked for by these files alone; each option changes something of it
abbrev pub without_options : (files : List (ℕ × Text)) → Asked
without_options files = record {
  page = None;
  names = false;
  fields = false;
  tasks = None;
  symbols = None;
  json = false;
  formats = None;
  instance = None;
  cpus = None;
  since = None;
  until = None;
  event = None;
  pids = None;
  keep = None;
  parcels = false;
  follow = false;
  round = None;
  files = files;
}

abbrev pub asked_of : CollectCall → Asked
asked_of call = record {
  page = call.page;
  names = call.names;
  fields = call.fields;
  tasks = option_map names_seen call.tasks;
  symbols = option_map names_seen call.symbols;
  json = call.json;
  formats = option_map (λ folder. folder.now) call.formats;
  instance = option_map (λ name. name.now) call.instance;
  cpus = option_map (λ marks. marks.items) call.cpus;
  since = call.since;
  until = call.until;
  event = option_map (λ pattern. pattern.now) call.event;
  pids = option_map (λ pids. pids.items) call.pids;
  keep = option_map (λ file. file.now) call.keep;
  parcels = call.parcels;
  follow = call.follow;
  round = call.round;
  files = map file_seen call.files.items;
}

-- what isn't asked for of files that are followed: moments, an instance, a file for new pieces, and pieces
abbrev pub excludes_follow : Asked → Bool
excludes_follow asked =
    is_some asked.since || (is_some asked.until || (is_some asked.instance || (is_some asked.keep || asked.parcels)))

-- all that is asked for goes together: with `--follow` there is none of these, and `--round` isn't there without it
abbrev pub goes_together : Asked → Bool
goes_together asked = if asked.follow then not (excludes_follow asked) else not (is_some asked.round)

-- the number that the matches have for the option of this name, from `low` to `high`, or that it isn't given
abbrev pub number_matched : (name : Text) (low high : ℕ) → List Row → Option (Option ℕ)
number_matched name low high rows = number_word low high (first_of name rows)

-- the bytes of a page and the files that the matches of `collect` name, if they can be read
abbrev pub page_matched : List Row → Option (Option ℕ)
page_matched rows = number_matched (codes "page") MIN_PAGE MAX_PAGE rows

abbrev pub files_matched : List Row → Option (List (ℕ × Text))
files_matched rows = option_and_then file_list (all_of (codes "file") rows)

-- and the milliseconds of a round
abbrev pub round_matched : List Row → Option (Option ℕ)
round_matched rows = number_matched (codes "round") MIN_ROUND MAX_ROUND rows

-- and what they name of a part that is listed: the marks of CPUs, from when on and until when, a pattern, and processes
abbrev pub cpus_matched : List Row → Option (Option (List Bool))
cpus_matched rows = said_by cpu_list (first_of (codes "cpu") rows)

abbrev pub span_matched : List Row → Option (Option ℕ × Option ℕ)
span_matched rows =
    span_by (said_by moment_in (first_of (codes "since") rows)) (said_by moment_in (first_of (codes "until") rows))

abbrev pub event_matched : List Row → Option (Option Text)
event_matched rows = said_by pattern_in (first_of (codes "event") rows)

abbrev pub pids_matched : List Row → Option (Option (List ℤ))
pids_matched rows = said_by pid_list (first_of (codes "pid") rows)

-- the path that they have for the option of this name, if it is given
abbrev pub path_matched : (name : Text) → List Row → Option (Option Text)
path_matched name rows = said_by path_in (first_of name rows)

-- a flag is given or not, as its text says, which is `true` or `false`
abbrev pub SaysFlag : List Row → (name : Text) (is_given : Bool) → Type 0
SaysFlag rows name is_given = (one_of name rows ≡ Some (codes "true") → is_given ≡ true)
    × (one_of name rows ≡ Some (codes "false") → is_given ≡ false)

-- names are asked for by the flag of this name, or by the option of that one, which has a path
pub record SaysNames (rows : List Row) (flag option : Text) (asked : Option (Option Text)) : Type 0 where
  pub is_given : Bool
  pub flagged : SaysFlag rows flag is_given
  pub names : option_map (λ path. names_by is_given path) (path_matched option rows) ≡ Some asked

-- The matches ask for this. Names are printed if `--names`, `--fields`, `--formats` or one of `--tasks`,
-- `--tasks-from`, `--symbols` and `--symbols-from` is given, and fields if `--fields` or one of the last two is.
pub record AsksFor (rows : List Row) (asked : Asked) : Type 0 where
  pub page : page_matched rows ≡ Some asked.page
  pub files : files_matched rows ≡ Some asked.files
  pub formats : first_of (codes "formats") rows ≡ asked.formats
  pub json : SaysFlag rows (codes "json") asked.json
  pub names : one_of (codes "names") rows ≡ Some (codes "true") → asked.names ≡ true
  pub named_formats : is_some asked.formats ≡ true → asked.names ≡ true
  pub named_fields : asked.fields ≡ true → asked.names ≡ true
  pub named_tasks : is_some asked.tasks ≡ true → asked.names ≡ true
  pub no_names : one_of (codes "names") rows ≡ Some (codes "false") → asked.formats ≡ None → asked.fields ≡ false
      → asked.tasks ≡ None → asked.names ≡ false
  pub fields : one_of (codes "fields") rows ≡ Some (codes "true") → asked.fields ≡ true
  pub named_symbols : is_some asked.symbols ≡ true → asked.fields ≡ true
  pub no_fields : one_of (codes "fields") rows ≡ Some (codes "false") → asked.symbols ≡ None → asked.fields ≡ false
  pub tasks : SaysNames rows (codes "tasks") (codes "tasks-from") asked.tasks
  pub symbols : SaysNames rows (codes "symbols") (codes "symbols-from") asked.symbols
  pub instance : first_of (codes "instance") rows ≡ asked.instance
  pub cpus : cpus_matched rows ≡ Some asked.cpus
  pub span : span_matched rows ≡ Some (asked.since, asked.until)
  pub event : event_matched rows ≡ Some asked.event
  pub pids : pids_matched rows ≡ Some asked.pids
  pub keep : first_of (codes "keep") rows ≡ asked.keep
  pub parcels : SaysFlag rows (codes "parcels") asked.parcels
  pub follow : SaysFlag rows (codes "follow") asked.follow
  pub round : round_matched rows ≡ Some asked.round

-- the bytes of a page, if these were said, or else the usual ones
abbrev pub page_bytes : Option ℕ → ℕ
page_bytes None = DEFAULT_PAGE
page_bytes (Some bytes) = bytes

-- the milliseconds of a round, likewise
abbrev pub round_millis : Option ℕ → ℕ
round_millis None = DEFAULT_ROUND
round_millis (Some millis) = millis

-- What is asked for is in range, and goes together: the bytes of a page; the marks of CPUs; the first moment, which
-- isn't after the last one; the bytes of a pattern; the milliseconds of a round; and the CPU of each file, of which
-- there is one at least.
pub record IsInRange (call : CollectCall) : Type 0 where
  pub page : IfSome call.page (λ bytes. (MIN_PAGE ≤ bytes) × (bytes ≤ MAX_PAGE))
  pub marks : IfSome call.cpus (λ marks. length marks.items ≡ MAX_CPUS)
  pub span : is_in_order call.since call.until ≡ true
  pub event : IfSome call.event (λ pattern. (0 < length pattern.now) × (length pattern.now ≤ MAX_PATTERN))
  pub round : IfSome call.round (λ millis. (MIN_ROUND ≤ millis) × (millis ≤ MAX_ROUND))
  pub together : goes_together (asked_of call) ≡ true
  pub some : 0 < length call.files.items
  pub cpus : All (λ file. file.cpu.0 < MAX_CPUS) call.files.items

-- the matches name no CPUs, moments, pattern or processes that can be read
abbrev pub IsPartUnread : List Row → Type 0
IsPartUnread rows =
    (cpus_matched rows ≡ None) ⊎ ((span_matched rows ≡ None) ⊎ ((event_matched rows ≡ None)
    ⊎ (pids_matched rows ≡ None)))

-- or no path of a file of names
abbrev pub AreNamesUnread : List Row → Type 0
AreNamesUnread rows =
    (path_matched (codes "tasks-from") rows ≡ None) ⊎ (path_matched (codes "symbols-from") rows ≡ None)

-- the matches name no size of a page, no part, no files of names, no round, or no files, that can be read
abbrev pub AreUnread : List Row → Type 0
AreUnread rows =
    (page_matched rows ≡ None) ⊎ (IsPartUnread rows ⊎ (AreNamesUnread rows
    ⊎ ((round_matched rows ≡ None) ⊎ (files_matched rows ≡ None))))

-- or they ask for what doesn't go together
abbrev pub AreApart : List Row → Type 0
AreApart rows = (asked : Asked) × AsksFor rows asked × (goes_together asked ≡ false)

-- `collect` is called for this, except that memory may be refused
abbrev pub IsAsked : Result Call CallFault → Asked → Type 0
IsAsked (Ok (Collect call)) asked = asked_of call ≡ asked
IsAsked (Ok (Replay log)) asked = ⊥
IsAsked (Ok Run) asked = ⊥
IsAsked (Ok Steps) asked = ⊥
IsAsked (Ok Dump) asked = ⊥
IsAsked (Ok (Recover call)) asked = ⊥
IsAsked (Ok Version) asked = ⊥
IsAsked (Ok Help) asked = ⊥
IsAsked (Err Usage) asked = ⊥
IsAsked (Err NoMemory) asked = ⊤

-- ---- `recover`

-- what `recover` is asked for: whether objects are printed, the file for new pieces of streams, and the path of each
-- file
pub record Recovering : Type 0 where
  pub json : Bool
  pub keep : Option Text
  pub files : List Text

abbrev pub recovering_of : RecoverCall → Recovering
recovering_of call = record {
  json = call.json;
  keep = option_map (λ file. file.now) call.keep;
  files = map (λ file. file.now) call.files.items;
}

-- the files that the matches of `recover` name, if there aren't too many
abbrev pub regions_matched : List Row → Option (List Text)
regions_matched rows = option_and_then path_list (all_of (codes "file") rows)

-- the matches ask for this
pub record AsksToRecover (rows : List Row) (asked : Recovering) : Type 0 where
  pub files : regions_matched rows ≡ Some asked.files
  pub json : SaysFlag rows (codes "json") asked.json
  pub keep : first_of (codes "keep") rows ≡ asked.keep

-- `recover` is called for this, except that memory may be refused
abbrev pub IsAskedToRecover : Result Call CallFault → Recovering → Type 0
IsAskedToRecover (Ok (Recover call)) asked = recovering_of call ≡ asked
IsAskedToRecover (Ok (Collect call)) asked = ⊥
IsAskedToRecover (Ok (Replay log)) asked = ⊥
IsAskedToRecover (Ok Run) asked = ⊥
IsAskedToRecover (Ok Steps) asked = ⊥
IsAskedToRecover (Ok Dump) asked = ⊥
IsAskedToRecover (Ok Version) asked = ⊥
IsAskedToRecover (Ok Help) asked = ⊥
IsAskedToRecover (Err Usage) asked = ⊥
IsAskedToRecover (Err NoMemory) asked = ⊤
