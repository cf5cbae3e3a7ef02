-- What the plain reader of a script answers, tied to the definition of whole texts.
use Rattle.std.proofs.Common.{◌≡◌, ℕ, ◌⊎◌, Bool, true, false, cond, List, [], ◌∷◌, ◌++◌, length, get_or, suc, arith}
use Rattle.std.proofs.Common.{Result, Ok, Err, refl, sym, ◌∙◌, ap, subst, inl, inr, append_assoc}
use Rattle.std.proofs.lemmas.Bool.{cond-true, cond-false}
use Rattle.std.proofs.lemmas.List.{append-nil, length-append}
use Rattle.trace_model.specs.declared.limits.TheConstants.{START_FILL}
use Rattle.text_model.specs.ScriptLines.{LineFault, bad_line, ◌>>=◌, NumberedLine, Setting, value_in, GiveSettings}
use Rattle.text_model.specs.ScriptLines.{IsFaultySetting, IsMissingSetting}
use Rattle.text_model.specs.HeaderReading.{numbered_reading, settings_from}
use Rattle.text_model.proofs.SettingLemmas.{settings_ok, settings_given, settings_err, faulty_setting_read}
use Rattle.text_model.proofs.SettingLemmas.{missing_setting_read, length_given, four_values}
use Rattle.text_model.specs.Script.{Command, Script, command_in, header_settings, start_setting, is_start_line}
use Rattle.text_model.specs.Script.{BeginsNoStart, GivesStart, SpellCommands, SpellScript, IsFaultyStart}
use Rattle.text_model.specs.Script.{IsFaultyCommand}
use Rattle.text_model.specs.ScriptReading.{commands_from, start_from, script_from}
use Rattle.text_model.proofs.Readings.{ok_is_no_err, same_ok, same_err, bind_ok, bind_err}
use Rattle.text_model.proofs.StartLines.{given_is_start, commands_begin_no_start, begins_no_start_before}
use Rattle.text_model.proofs.StartLines.{first_is_no_start}

-- what is read, or the first line at fault
abbrev pub Read : Type 0 → Type 0
Read X = Result X (ℕ × LineFault)

abbrev pub Settings : Type 0
Settings = List ℕ × List NumberedLine

abbrev pub Start : Type 0
Start = ℕ × List NumberedLine

abbrev pub Commands : Type 0
Commands = List (ℕ × Command)

-- ---- the commands
abbrev commands_onto : Commands → Commands → Read Commands
commands_onto front commands = Ok (front ++ commands)

-- the command of the line whose reading is r, and then the others
abbrev command_then : ℕ → ℕ → NumberedLine → List NumberedLine → Result Command LineFault → Read Commands
command_then cpus collectors line lines r =
    numbered_reading line.0 r >>= λ command. commands_from cpus collectors lines >>= λ commands.
    Ok ((line.0, command) ∷ commands)

commands_from_line : (cpus collectors : ℕ) (line : NumberedLine) (lines : List NumberedLine)
    → commands_from cpus collectors (line ∷ lines) ≡ command_then cpus collectors line lines
    (command_in cpus collectors line.1)
unfolding commands_from
commands_from_line cpus collectors line lines = refl

commands_ok_at : (cpus collectors : ℕ) (line : NumberedLine) (lines : List NumberedLine) (x : Commands)
    (r : Result Command LineFault)
    → ((x : Commands) → commands_from cpus collectors lines ≡ Ok x → SpellCommands cpus collectors lines x)
    → command_in cpus collectors line.1 ≡ r → command_then cpus collectors line lines r ≡ Ok x
    → SpellCommands cpus collectors (line ∷ lines) x
commands_ok_at cpus collectors line lines x (Ok command) again is h =
    let rest = bind_ok (commands_from cpus collectors lines) (λ commands. Ok ((line.0, command) ∷ commands)) x h in
    subst (λ (x : Commands). SpellCommands cpus collectors (line ∷ lines) x)
    (same_ok ((line.0, command) ∷ rest.0) x rest.2)
    (is, refl, again rest.0 rest.1)
commands_ok_at cpus collectors line lines x (Err f) again is h = absurd (ok_is_no_err x (line.0, f) (sym h))

-- what the reader takes for commands are lines that spell them
commands_ok : (cpus collectors : ℕ) (lines : List NumberedLine) (x : Commands)
    → commands_from cpus collectors lines ≡ Ok x → SpellCommands cpus collectors lines x
unfolding commands_from
commands_ok cpus collectors [] x h =
    let none : Commands = [] in
    subst (λ (x : Commands). SpellCommands cpus collectors [] x) (same_ok none x h) tt
commands_ok cpus collectors (line ∷ lines) x h =
    commands_ok_at cpus collectors line lines x (command_in cpus collectors line.1)
    (commands_ok cpus collectors lines) refl h

commands_same : (r : Read Commands) → r ≡ (r >>= commands_onto [])
commands_same (Ok x) = refl
commands_same (Err e) = refl

command_onto : (command : ℕ × Command) (front : Commands) (r : Read Commands)
    → ((r >>= commands_onto front) >>= λ commands. Ok (command ∷ commands)) ≡ (r >>= commands_onto (command ∷ front))
command_onto command front (Ok x) = refl
command_onto command front (Err e) = refl

-- lines that spell commands are read as them, if the rest follows them
commands_given : (cpus collectors : ℕ) (front : List NumberedLine) (commands : Commands) (rest : List NumberedLine)
    → SpellCommands cpus collectors front commands
    → commands_from cpus collectors (front ++ rest) ≡ (commands_from cpus collectors rest >>= commands_onto commands)
commands_given cpus collectors [] [] rest h = commands_same (commands_from cpus collectors rest)
commands_given cpus collectors (line ∷ front) (command ∷ commands) rest h =
    let same : (line.0, command.1) ≡ command = ap (λ (n : ℕ). (n, command.1)) h.1 in
    commands_from_line cpus collectors line (front ++ rest)
    ∙ ap (command_then cpus collectors line (front ++ rest)) h.0
    ∙ ap (λ (r : Read Commands). r >>= λ commands. Ok ((line.0, command.1) ∷ commands))
    (commands_given cpus collectors front commands rest h.2)
    ∙ command_onto (line.0, command.1) commands (commands_from cpus collectors rest)
    ∙ ap (λ (first : ℕ × Command). commands_from cpus collectors rest >>= commands_onto (first ∷ commands)) same
commands_given cpus collectors [] (command ∷ commands) rest h = absurd h
commands_given cpus collectors (line ∷ front) [] rest h = absurd h

-- the lines before a line spell commands, and that line none
record CommandFault (cpus collectors : ℕ) (lines : List NumberedLine) (e : ℕ × LineFault) : Type 0 where
  front : List NumberedLine
  line : List ℕ
  behind : List NumberedLine
  cut : lines ≡ front ++ (e.0, line) ∷ behind
  commands : Commands
  fits : SpellCommands cpus collectors front commands
  fails : command_in cpus collectors line ≡ Err e.1

commands_err_at : (cpus collectors : ℕ) (line : NumberedLine) (lines : List NumberedLine) (e : ℕ × LineFault)
    (r : Result Command LineFault)
    → ((e : ℕ × LineFault) → commands_from cpus collectors lines ≡ Err e → CommandFault cpus collectors lines e)
    → command_in cpus collectors line.1 ≡ r → command_then cpus collectors line lines r ≡ Err e
    → CommandFault cpus collectors (line ∷ lines) e
commands_err_at cpus collectors line lines e (Ok command) again is h =
    elim (bind_err (commands_from cpus collectors lines) (λ commands. Ok ((line.0, command) ∷ commands)) e h) [
      | inl f ↦ let found = again e f in record {
        front = line ∷ found.front;
        line = found.line;
        behind = found.behind;
        cut = ap (λ (ls : List NumberedLine). line ∷ ls) found.cut;
        commands = (line.0, command) ∷ found.commands;
        fits = (is, refl, found.fits);
        fails = found.fails;
      }
      | inr w ↦ absurd (ok_is_no_err ((line.0, command) ∷ w.0) e w.2)
    ]
commands_err_at cpus collectors line lines e (Err f) again is h =
    subst (λ (e : ℕ × LineFault). CommandFault cpus collectors (line ∷ lines) e) (same_err (line.0, f) e h) record {
      front = [];
      line = line.1;
      behind = lines;
      cut = refl;
      commands = [];
      fits = tt;
      fails = is;
    }

-- what the reader takes for a fault of a command is one
commands_err : (cpus collectors : ℕ) (lines : List NumberedLine) (e : ℕ × LineFault)
    → commands_from cpus collectors lines ≡ Err e → CommandFault cpus collectors lines e
unfolding commands_from
commands_err cpus collectors [] e h = absurd (let none : Commands = [] in ok_is_no_err none e h)
commands_err cpus collectors (line ∷ lines) e h =
    commands_err_at cpus collectors line lines e (command_in cpus collectors line.1)
    (commands_err cpus collectors lines) refl h

-- and it is read as one
faulty_command_read : (cpus collectors : ℕ) (lines : List NumberedLine) (e : ℕ × LineFault)
    → CommandFault cpus collectors lines e → commands_from cpus collectors lines ≡ Err e
faulty_command_read cpus collectors lines e f =
    ap (commands_from cpus collectors) f.cut
    ∙ commands_given cpus collectors f.front f.commands ((e.0, f.line) ∷ f.behind) f.fits
    ∙ ap (λ (r : Read Commands). r >>= commands_onto f.commands)
    (commands_from_line cpus collectors (e.0, f.line) f.behind
    ∙ ap (command_then cpus collectors (e.0, f.line) f.behind) f.fails)

-- ---- the start line
-- what is before the commands, and the lines after it: if nothing is, none of them is a start line
pub record StartRead (pages : ℕ) (lines : List NumberedLine) (x : Start) : Type 0 where
  pub start_line : List NumberedLine
  pub cut : lines ≡ start_line ++ x.1
  pub gives : GivesStart pages start_line x.0
  pub no_start : length start_line ≡ 0 → BeginsNoStart x.1

-- the first line is a start line whose value is at fault
record StartFault (pages : ℕ) (lines : List NumberedLine) (e : ℕ × LineFault) : Type 0 where
  line : List ℕ
  behind : List NumberedLine
  cut : lines ≡ (e.0, line) ∷ behind
  is_start : is_start_line line ≡ true
  fails : value_in (start_setting pages) line ≡ Err e.1

-- the first fill that the line gives whose reading is r
abbrev pub start_then : NumberedLine → List NumberedLine → Result ℕ LineFault → Read Start
start_then line lines r = numbered_reading line.0 r >>= λ value. let found : Read Start = Ok (value, lines) in found

abbrev no_start_then : List NumberedLine → Read Start
no_start_then lines = Ok (START_FILL, lines)

start_from_line : (pages : ℕ) (line : NumberedLine) (lines : List NumberedLine)
    → start_from pages (line ∷ lines)
    ≡ cond (is_start_line line.1) (start_then line lines (value_in (start_setting pages) line.1))
    (no_start_then (line ∷ lines))
unfolding start_from
start_from_line pages line lines = refl

start_ok_at : (pages : ℕ) (line : NumberedLine) (lines : List NumberedLine) (x : Start) (is_start : Bool)
    (r : Result ℕ LineFault)
    → is_start_line line.1 ≡ is_start → value_in (start_setting pages) line.1 ≡ r
    → cond is_start (start_then line lines r) (no_start_then (line ∷ lines)) ≡ Ok x → StartRead pages (line ∷ lines) x
start_ok_at pages line lines x true (Ok value) is given h =
    subst (λ (x : Start). StartRead pages (line ∷ lines) x) (same_ok (value, lines) x h) record {
      start_line = line ∷ [];
      cut = refl;
      gives = given;
      no_start = λ none. absurd (omega (arith, none));
    }
start_ok_at pages line lines x true (Err f) is given h = absurd (ok_is_no_err x (line.0, f) (sym h))
start_ok_at pages line lines x false r is given h =
    subst (λ (x : Start). StartRead pages (line ∷ lines) x) (same_ok (START_FILL, line ∷ lines) x h) record {
      start_line = [];
      cut = refl;
      gives = refl;
      no_start = λ none. is;
    }

-- what the reader takes for the first fill is given by a start line, or meant without one
pub start_ok : (pages : ℕ) (lines : List NumberedLine) (x : Start) → start_from pages lines ≡ Ok x
    → StartRead pages lines x
unfolding start_from
start_ok pages [] x h =
    let none : List NumberedLine = [] in
    subst (λ (x : Start). StartRead pages [] x) (same_ok (START_FILL, none) x h) record {
      start_line = [];
      cut = refl;
      gives = refl;
      no_start = λ none. tt;
    }
start_ok pages (line ∷ lines) x h =
    start_ok_at pages line lines x (is_start_line line.1) (value_in (start_setting pages) line.1) refl refl
    (sym (start_from_line pages line lines) ∙ h)

start_err_at : (pages : ℕ) (line : NumberedLine) (lines : List NumberedLine) (e : ℕ × LineFault) (is_start : Bool)
    (r : Result ℕ LineFault)
    → is_start_line line.1 ≡ is_start → value_in (start_setting pages) line.1 ≡ r
    → cond is_start (start_then line lines r) (no_start_then (line ∷ lines)) ≡ Err e → StartFault pages (line ∷ lines) e
start_err_at pages line lines e true (Ok value) is given h = absurd (ok_is_no_err (value, lines) e h)
start_err_at pages line lines e true (Err f) is given h =
    subst (λ (e : ℕ × LineFault). StartFault pages (line ∷ lines) e) (same_err (line.0, f) e h) record {
      line = line.1;
      behind = lines;
      cut = refl;
      is_start = is;
      fails = given;
    }
start_err_at pages line lines e false r is given h = absurd (ok_is_no_err (START_FILL, line ∷ lines) e h)

-- what the reader takes for a fault of the start line is one
start_err : (pages : ℕ) (lines : List NumberedLine) (e : ℕ × LineFault) → start_from pages lines ≡ Err e
    → StartFault pages lines e
unfolding start_from
start_err pages [] e h = absurd (let none : Start = (START_FILL, []) in ok_is_no_err none e h)
start_err pages (line ∷ lines) e h =
    start_err_at pages line lines e (is_start_line line.1) (value_in (start_setting pages) line.1) refl refl
    (sym (start_from_line pages line lines) ∙ h)

pub start_line_read : (pages : ℕ) (line : NumberedLine) (lines : List NumberedLine) (r : Result ℕ LineFault)
    → is_start_line line.1 ≡ true → value_in (start_setting pages) line.1 ≡ r
    → start_from pages (line ∷ lines) ≡ start_then line lines r
start_line_read pages line lines r is given =
    start_from_line pages line lines
    ∙ cond-true (is_start_line line.1) _ _ is
    ∙ ap (start_then line lines) given

pub no_start_read : (pages : ℕ) (lines : List NumberedLine) → BeginsNoStart lines
    → start_from pages lines ≡ Ok (START_FILL, lines)
unfolding start_from
no_start_read pages [] h = refl
no_start_read pages (line ∷ lines) h = start_from_line pages line lines ∙ cond-false (is_start_line line.1) _ _ h

-- before lines that begin with no start line, what gives the first fill is read as it
start_read : (pages : ℕ) (start_line : List NumberedLine) (start : ℕ) (rest : List NumberedLine)
    → GivesStart pages start_line start → (length start_line ≡ 0 → BeginsNoStart rest)
    → start_from pages (start_line ++ rest) ≡ Ok (start, rest)
start_read pages [] start rest gives no_start =
    no_start_read pages rest (no_start refl) ∙ ap (λ (n : ℕ). let r : Read Start = Ok (n, rest) in r) (sym gives)
start_read pages (line ∷ []) start rest gives no_start =
    start_line_read pages line rest (Ok start) (given_is_start pages start line.1 gives) gives
start_read pages (line ∷ next ∷ lines) start rest gives no_start = absurd gives

-- ---- the script
-- the script of these values, this first fill and these commands
abbrev pub made_of : List ℕ → ℕ → Commands → Script
made_of values start commands = record {
  pages = get_or values 0 0;
  size = get_or values 1 0;
  cpus = get_or values 2 0;
  collectors = get_or values 3 0;
  start = start;
  commands = commands;
}

-- the commands, and then the script
abbrev pub then_commands : Settings → Start → Read Script
then_commands x y = commands_from (get_or x.0 2 0) (get_or x.0 3 0) y.1 >>= λ commands. Ok (made_of x.0 y.0 commands)

-- the first fill, the commands, and then the script
abbrev pub then_start : Settings → Read Script
then_start x = start_from (get_or x.0 0 0) x.1 >>= then_commands x

pub script_from_settings : (end : ℕ) (lines : List NumberedLine)
    → script_from end lines ≡ (settings_from end header_settings lines >>= then_start)
unfolding script_from
script_from_settings end lines = refl

-- there are as many lines as settings
header_length : (header : List NumberedLine) (settings : List Setting) (values : List ℕ)
    → GiveSettings header settings values → length header ≡ length settings
header_length [] [] [] h = refl
header_length (line ∷ header) (s ∷ settings) (value ∷ values) h =
    ap (λ (n : ℕ). suc n) (header_length header settings values h.1)
header_length [] [] (value ∷ values) h = absurd h
header_length [] (s ∷ settings) values h = absurd h
header_length (line ∷ header) [] values h = absurd h
header_length (line ∷ header) (s ∷ settings) [] h = absurd h

-- the values of a script's header
abbrev values_of : Script → List ℕ
values_of s = s.pages ∷ s.size ∷ s.cpus ∷ s.collectors ∷ []

-- what the reader takes for the header are lines that give it
record HeaderRead (lines : List NumberedLine) (x : Settings) : Type 0 where
  header : List NumberedLine
  cut : lines ≡ header ++ x.1
  settings : GiveSettings header header_settings
      (get_or x.0 0 0 ∷ get_or x.0 1 0 ∷ get_or x.0 2 0 ∷ get_or x.0 3 0 ∷ [])

header_ok : (end : ℕ) (lines : List NumberedLine) (x : Settings) → settings_from end header_settings lines ≡ Ok x
    → HeaderRead lines x
header_ok end lines x is =
    let given = settings_ok end header_settings lines x is in
    record {
      header = given.0;
      cut = given.1;
      settings =
          subst (λ (values : List ℕ). GiveSettings given.0 header_settings values)
          (four_values x.0 (length_given given.0 header_settings x.0 given.2)) given.2;
    }

header_read : (end : ℕ) (header rest : List NumberedLine) (s : Script)
    → GiveSettings header header_settings (values_of s)
    → settings_from end header_settings (header ++ rest) ≡ Ok (values_of s, rest)
unfolding settings_from
header_read end header rest s h = settings_given end header header_settings (values_of s) [] rest h

-- lines that spell the header, perhaps a start line, and commands
spelled_by : (lines : List NumberedLine) (x : Settings) (y : Start) (commands : Commands)
    → HeaderRead lines x → StartRead (get_or x.0 0 0) x.1 y
    → SpellCommands (get_or x.0 2 0) (get_or x.0 3 0) y.1 commands → SpellScript lines (made_of x.0 y.0 commands)
spelled_by lines x y commands header start fits = record {
  header = header.header;
  start_line = start.start_line;
  behind = y.1;
  cut = header.cut ∙ ap (λ (ls : List NumberedLine). header.header ++ ls) start.cut;
  settings = header.settings;
  start = start.gives;
  commands = fits;
}

-- what the reader takes for a script is one that the lines spell
pub script_ok : (end : ℕ) (lines : List NumberedLine) (s : Script) → script_from end lines ≡ Ok s → SpellScript lines s
script_ok end lines s h =
    let header =
    bind_ok (settings_from end header_settings lines) then_start s (sym (script_from_settings end lines) ∙ h) in
    let x : Settings = header.0 in
    let start = bind_ok (start_from (get_or x.0 0 0) x.1) (then_commands x) s header.2 in
    let y : Start = start.0 in
    let commands =
    bind_ok (commands_from (get_or x.0 2 0) (get_or x.0 3 0) y.1)
    (λ commands. Ok (made_of x.0 y.0 commands)) s start.2 in
    let made : Script = made_of x.0 y.0 commands.0 in
    subst (λ (s : Script). SpellScript lines s) {x = made} (same_ok made s commands.2)
    (spelled_by lines x y commands.0 (header_ok end lines x header.1) (start_ok (get_or x.0 0 0) x.1 y start.1)
    (commands_ok (get_or x.0 2 0) (get_or x.0 3 0) y.1 commands.0 commands.1))

-- after a header and perhaps a start line, the reader goes on with the commands
behind_start_read : (end : ℕ) (header start_line rest : List NumberedLine) (s : Script)
    → GiveSettings header header_settings (values_of s) → GivesStart s.pages start_line s.start
    → (length start_line ≡ 0 → BeginsNoStart rest)
    → script_from end (header ++ (start_line ++ rest)) ≡
    (commands_from s.cpus s.collectors rest >>= λ commands. Ok (made_of (values_of s) s.start commands))
behind_start_read end header start_line rest s settings gives no_start =
    script_from_settings end (header ++ (start_line ++ rest))
    ∙ ap (λ (r : Read Settings). r >>= then_start) (header_read end header (start_line ++ rest) s settings)
    ∙ ap (λ (r : Read Start). r >>= then_commands (values_of s, start_line ++ rest))
    (start_read s.pages start_line s.start rest gives no_start)

-- and a script that the lines spell is read
pub script_given : (end : ℕ) (lines : List NumberedLine) (s : Script) → SpellScript lines s
    → script_from end lines ≡ Ok s
unfolding commands_from
script_given end lines s h =
    let commands : commands_from s.cpus s.collectors h.behind ≡ Ok s.commands =
    ap (commands_from s.cpus s.collectors) (sym (append-nil h.behind))
    ∙ commands_given s.cpus s.collectors h.behind s.commands [] h.commands
    ∙ ap (λ (cs : Commands). let r : Read Commands = Ok cs in r) (append-nil s.commands) in
    ap (script_from end) h.cut
    ∙ behind_start_read end h.header h.start_line h.behind s h.settings h.start
    (λ none. commands_begin_no_start s.cpus s.collectors h.behind s.commands h.commands)
    ∙ ap (λ (r : Read Commands). r >>= λ commands. Ok (made_of (values_of s) s.start commands)) commands

-- the first fault of these lines, if the line after the last one has the number end
abbrev pub LinesFault : ℕ → List NumberedLine → ℕ × LineFault → Type 0
LinesFault end lines e =
    IsFaultySetting header_settings lines e.0 e.1
    ⊎ (IsMissingSetting header_settings lines × (e.0 ≡ end) × (e.1 ≡ bad_line))
    ⊎ IsFaultyStart lines e.0 e.1
    ⊎ IsFaultyCommand lines e.0 e.1

setting_fault : (end : ℕ) (lines : List NumberedLine) (e : ℕ × LineFault)
    → IsFaultySetting header_settings lines e.0 e.1 ⊎ (IsMissingSetting header_settings lines × (e ≡ (end, bad_line)))
    → LinesFault end lines e
setting_fault end lines e (inl f) = inl f
setting_fault end lines e (inr f) =
    inr (inl (f.0, ap (λ (e : ℕ × LineFault). e.0) f.1, ap (λ (e : ℕ × LineFault). e.1) f.1))

start_fault : (lines : List NumberedLine) (x : Settings) (e : ℕ × LineFault)
    → HeaderRead lines x → StartFault (get_or x.0 0 0) x.1 e → IsFaultyStart lines e.0 e.1
start_fault lines x e header f = record {
  front = header.header;
  line = f.line;
  behind = f.behind;
  cut = header.cut ∙ ap (λ (ls : List NumberedLine). header.header ++ ls) f.cut;
  script = made_of x.0 START_FILL [];
  fits = record {
    header = header.header;
    start_line = [];
    behind = [];
    cut = sym (append-nil header.header);
    settings = header.settings;
    start = refl;
    commands = tt;
  };
  at_its_place = header_length header.header header_settings _ header.settings;
  is_start = f.is_start;
  fails = f.fails;
}

command_fault : (lines : List NumberedLine) (x : Settings) (y : Start) (e : ℕ × LineFault)
    → HeaderRead lines x → StartRead (get_or x.0 0 0) x.1 y
    → CommandFault (get_or x.0 2 0) (get_or x.0 3 0) y.1 e → IsFaultyCommand lines e.0 e.1
command_fault lines x y e header start f =
    let line : NumberedLine = (e.0, f.line) in
    let four = header_length header.header header_settings _ header.settings in
    let begins : length start.start_line ≡ 0 → BeginsNoStart (f.front ++ line ∷ f.behind) =
    λ none. subst BeginsNoStart f.cut (start.no_start none) in
    let long = length-append header.header (start.start_line ++ f.front) in
    let short = length-append start.start_line f.front in
    record {
      front = header.header ++ (start.start_line ++ f.front);
      line = f.line;
      behind = f.behind;
      cut = header.cut
          ∙ ap (λ (ls : List NumberedLine). header.header ++ ls)
          (start.cut ∙ ap (λ (ls : List NumberedLine). start.start_line ++ ls) f.cut
          ∙ sym (append_assoc start.start_line f.front (line ∷ f.behind)))
          ∙ sym (append_assoc header.header (start.start_line ++ f.front) (line ∷ f.behind));
      script = made_of x.0 y.0 f.commands;
      fits = record {
        header = header.header;
        start_line = start.start_line;
        behind = f.front;
        cut = refl;
        settings = header.settings;
        start = start.gives;
        commands = f.fits;
      };
      no_start =
          λ all. first_is_no_start f.front line f.behind (begins (omega (arith, four, long, short, all)))
          (omega (arith, four, long, short, all));
      fails = f.fails;
    }

-- what the reader takes for the first fault is it
pub script_err : (end : ℕ) (lines : List NumberedLine) (e : ℕ × LineFault) → script_from end lines ≡ Err e
    → LinesFault end lines e
script_err end lines e h =
    elim (bind_err (settings_from end header_settings lines) then_start e (sym (script_from_settings end lines) ∙ h)) [
      | inl f ↦ setting_fault end lines e (settings_err end header_settings lines e f)
      | inr w ↦ let x : Settings = w.0 in
          let header = header_ok end lines x w.1 in
          elim (bind_err (start_from (get_or x.0 0 0) x.1) (then_commands x) e w.2) [
            | inl f ↦ inr (inr (inl (start_fault lines x e header (start_err (get_or x.0 0 0) x.1 e f))))
            | inr v ↦ let y : Start = v.0 in
                let start = start_ok (get_or x.0 0 0) x.1 y v.1 in
                elim (bind_err (commands_from (get_or x.0 2 0) (get_or x.0 3 0) y.1)
                (λ commands. Ok (made_of x.0 y.0 commands)) e v.2) [
                  | inl f ↦ inr (inr (inr (command_fault lines x y e header start
                      (commands_err (get_or x.0 2 0) (get_or x.0 3 0) y.1 e f))))
                  | inr u ↦ absurd (ok_is_no_err (made_of x.0 y.0 u.0) e u.2)
                ]
          ]
    ]

-- lines as many as the header's that spell a script are its header alone
header_alone : (front : List NumberedLine) (s : Script) (h : SpellScript front s)
    → length front ≡ length header_settings → front ≡ h.header
header_alone front s h all =
    let four = header_length h.header header_settings (values_of s) h.settings in
    let long = length-append h.header (h.start_line ++ h.behind) in
    let cut = ap (λ (ls : List NumberedLine). length ls) h.cut in
    h.cut ∙ ap (λ (ls : List NumberedLine). h.header ++ ls)
    (none_left (h.start_line ++ h.behind) (omega (arith, all, four, long, cut))) ∙ append-nil h.header
  where
    none_left : (lines : List NumberedLine) → length lines ≡ 0 → lines ≡ []
    none_left [] none = refl
    none_left (line ∷ lines) none = absurd (omega (arith, none))

start_fault_read : (end : ℕ) (lines : List NumberedLine) (e : ℕ × LineFault) → IsFaultyStart lines e.0 e.1
    → script_from end lines ≡ Err e
start_fault_read end lines e f =
    let s : Script = f.script in
    let rest = (e.0, f.line) ∷ f.behind in
    let cut : lines ≡ f.fits.header ++ rest =
    f.cut ∙ ap (λ (ls : List NumberedLine). ls ++ rest) (header_alone f.front s f.fits f.at_its_place) in
    ap (script_from end) cut
    ∙ script_from_settings end (f.fits.header ++ rest)
    ∙ ap (λ (r : Read Settings). r >>= then_start) (header_read end f.fits.header rest s f.fits.settings)
    ∙ ap (λ (r : Read Start). r >>= then_commands (values_of s, rest))
    (start_line_read s.pages (e.0, f.line) f.behind (Err e.1) f.is_start f.fails)

command_fault_read : (end : ℕ) (lines : List NumberedLine) (e : ℕ × LineFault) → IsFaultyCommand lines e.0 e.1
    → script_from end lines ≡ Err e
command_fault_read end lines e f =
    let s : Script = f.script in
    let h : SpellScript f.front s = f.fits in
    let line : NumberedLine = (e.0, f.line) in
    let rest = h.behind ++ line ∷ f.behind in
    let cut : lines ≡ h.header ++ (h.start_line ++ rest) =
    f.cut
    ∙ ap (λ (ls : List NumberedLine). ls ++ line ∷ f.behind) h.cut
    ∙ append_assoc h.header (h.start_line ++ h.behind) (line ∷ f.behind)
    ∙ ap (λ (ls : List NumberedLine). h.header ++ ls) (append_assoc h.start_line h.behind (line ∷ f.behind)) in
    let found : CommandFault s.cpus s.collectors rest e = record {
      front = h.behind;
      line = f.line;
      behind = f.behind;
      cut = refl;
      commands = s.commands;
      fits = h.commands;
      fails = f.fails;
    } in
    let four = header_length h.header header_settings (values_of s) h.settings in
    let front = ap (λ (ls : List NumberedLine). length ls) h.cut in
    let long = length-append h.header (h.start_line ++ h.behind) in
    let short = length-append h.start_line h.behind in
    let begins : length h.start_line ≡ 0 → BeginsNoStart rest =
    λ none. begins_no_start_before h.behind line f.behind
    (commands_begin_no_start s.cpus s.collectors h.behind s.commands h.commands)
    (λ alone. f.no_start (omega (arith, four, front, long, short, none, alone))) in
    ap (script_from end) cut
    ∙ behind_start_read end h.header h.start_line rest s h.settings h.start begins
    ∙ ap (λ (r : Read Commands). r >>= λ commands. Ok (made_of (values_of s) s.start commands))
    (faulty_command_read s.cpus s.collectors rest e found)

-- and the first fault is read as it
pub script_fault_given : (end : ℕ) (lines : List NumberedLine) (e : ℕ × LineFault) → LinesFault end lines e
    → script_from end lines ≡ Err e
script_fault_given end lines e (inl f) =
    script_from_settings end lines
    ∙ ap (λ (r : Read Settings). r >>= then_start) (faulty_setting_read end header_settings lines e.0 e.1 f)
script_fault_given end lines e (inr (inl f)) =
    let same : (end, bad_line) ≡ e =
    ap (λ (n : ℕ). (n, bad_line)) (sym f.1) ∙ ap (λ (fault : LineFault). (e.0, fault)) (sym f.2) in
    script_from_settings end lines
    ∙ ap (λ (r : Read Settings). r >>= then_start) (missing_setting_read end header_settings lines f.0)
    ∙ ap (λ (e : ℕ × LineFault). let r : Read Script = Err e in r) same
script_fault_given end lines e (inr (inr (inl f))) = start_fault_read end lines e f
script_fault_given end lines e (inr (inr (inr f))) = command_fault_read end lines e f
