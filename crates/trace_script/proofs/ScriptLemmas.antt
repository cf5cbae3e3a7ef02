-- What the reader's functions answer, in the words of the plain reader.
use Rattle.std.proofs.Common.{◌≡◌, ◌≢◌, ◌==◌, ℕ, ◌<◌, true, false, List, [], ◌∷◌, ◌++◌, length, Bor, Result, Ok, Err}
use Rattle.std.proofs.Common.{IfOk, IfErr, refl, sym, ◌∙◌, ap, subst, arith, append_assoc, length-append}
use Rattle.std.proofs.lemmas.Bool.{cond-true, cond-false}
use Rattle.std.proofs.lemmas.List.{append-nil}
use Rattle.std.proofs.lemmas.List.Splits.{length-slice_split}
use Rattle.trace_model.specs.declared.limits.TheConstants.{START_FILL}
use Rattle.text_model.specs.Text.{fields_of, is_well_spaced}
use Rattle.text_model.specs.ScriptLines.{LineFault, NumberedLine, Setting, bad_line, bad_number, bad_hex, out_of_range}
use Rattle.text_model.specs.ScriptLines.{◌>>=◌, value_of, value_in}
use Rattle.text_model.specs.HeaderReading.{numbered_reading, significant_lines_after, end_line_after, setting_from}
use Rattle.text_model.specs.HeaderReading.{settings_from}
use Rattle.text_model.proofs.SettingLemmas.{settings_ok}
use Rattle.text_model.specs.Script as model
use Rattle.text_model.specs.Script.{Command, ParsesScript, SpellCommands, command_in, start_setting, is_start_line}
use Rattle.text_model.specs.ScriptReading.{commands_from, start_from, script_from}
use Rattle.text_model.specs.ScriptLimits.{IsWithinLimits}
use Rattle.text_model.proofs.ParsedLimits.{ParsesScript-within}
use Rattle.text_model.proofs.Readings.{ok_is_no_err}
use Rattle.text_model.proofs.ScriptLemmas.{start_ok}
use Rattle.text_model.proofs.ScriptReads.{by_lines, script_in_by_lines, script_reads, fault_reads}
use Rattle.trace_script.specs.declared.fault.LineFault as line
use Rattle.trace_script.specs.declared.fault.LineFault.TheVariants as faults
use Rattle.trace_script.specs.declared.fault.ScriptFault as script
use Rattle.trace_script.specs.declared.fault.ScriptFault.TheVariants as scripts
use Rattle.trace_script.specs.declared.fields.Fields.{Fields}
use Rattle.trace_script.specs.declared.fields.Fields.TheVariants.{One, Two, Three, More}
use Rattle.trace_script.specs.declared.header.Header.{Header}
use Rattle.trace_script.specs.Kept.{Kept, PutsCommand, PutsCommandAt, ReadAs, BeginAsCommands}
use Rattle.trace_script.specs.ScriptFaults.{Fails, Gives, FailsAt, FailsAtLine, GivesAt, BeginsAsScript}
use Rattle.trace_script.specs.ScriptFaults.{ReportsFirstFault, fault_at, reading_at}
use Rattle.trace_script.specs.ScriptFields.{AreFields}
use Rattle.trace_script.specs.ScriptTypes.{values_of, script_of}

-- what is read, or the first line at fault
abbrev pub Read : Type 0 → Type 0
Read X = Result X (ℕ × LineFault)

-- a fault stays one, whatever would follow it
fails_then : {X Y : Type 0} (fault : script.ScriptFault) (read : Read X) (f : X → Read Y) → FailsAt fault read
    → FailsAt fault (read >>= f)
fails_then {X} (scripts.BadLine n) read f h = ap (λ (read : Read X). read >>= f) h
fails_then {X} (scripts.BadNumber n) read f h = ap (λ (read : Read X). read >>= f) h
fails_then {X} (scripts.BadHex n) read f h = ap (λ (read : Read X). read >>= f) h
fails_then {X} (scripts.OutOfRange n) read f h = ap (λ (read : Read X). read >>= f) h
fails_then scripts.NoMemory read f h = tt

abbrev setting_and : ℕ → List NumberedLine → Read (ℕ × List NumberedLine)
setting_and value rest = Ok (value, rest)

-- ---- one value of the header
value_of_two : (s : Setting) (fields : List (List ℕ)) (word number : List ℕ) → fields ≡ word ∷ number ∷ []
    → value_of s fields ≡ value_of s (word ∷ number ∷ [])
unfolding value_of
value_of_two s fields word number h = ap (value_of s) h

value_of_other : (s : Setting) (fields : List (List ℕ)) → length fields ≢ 2 → value_of s fields ≡ Err bad_line
unfolding value_of
value_of_other s [] h = refl
value_of_other s (a ∷ []) h = refl
value_of_other s (a ∷ b ∷ []) h = absurd (h refl)
value_of_other s (a ∷ b ∷ d ∷ fields) h = refl

value_in_spaced : (s : Setting) (text : List ℕ) → is_well_spaced (fields_of text) ≡ true
    → value_in s text ≡ value_of s (fields_of text)
unfolding value_in
value_in_spaced s text h = cond-true (is_well_spaced (fields_of text)) _ _ h

pub value_in_badly_spaced : (s : Setting) (text : List ℕ) → is_well_spaced (fields_of text) ≡ false
    → value_in s text ≡ Err bad_line
unfolding value_in
value_in_badly_spaced s text h = cond-false (is_well_spaced (fields_of text)) _ _ h

pub value_from_two : {X : Type 0} (view : X → ℕ) (s : Setting) (text : List ℕ) (word number : Bor (List ℕ))
    (r : Result X line.LineFault) → is_well_spaced (fields_of text) ≡ true
    → AreFields (Two word number) (fields_of text)
    → Gives view r (value_of s (word.now ∷ number.now ∷ [])) → Gives view r (value_in s text)
value_from_two view s text word number r spaced fields h =
    subst (λ (read : Result ℕ LineFault). Gives view r read)
    (sym (value_in_spaced s text spaced ∙ value_of_two s (fields_of text) word.now number.now fields)) h

-- of other fields than two there are more or fewer
not_two : (text : List ℕ) (f : Fields) → AreFields f (fields_of text)
    → ((word number : Bor (List ℕ)) → f ≡ Two word number → ⊥) → length (fields_of text) ≢ 2
not_two text One are h two = omega (arith, are, two)
not_two text (Two word number) are h two = h word number refl
not_two text (Three a b d) are h two = omega (arith, ap (λ (fs : List (List ℕ)). length fs) are, two)
not_two text (More a b d rest) are h two =
    omega (arith, ap (λ (fs : List (List ℕ)). length fs) are, length-slice_split (λ b. b == 32) rest.now, two)

pub no_value_without_two : (s : Setting) (text : List ℕ) (f : Fields) → is_well_spaced (fields_of text) ≡ true
    → AreFields f (fields_of text) → ((word number : Bor (List ℕ)) → f ≡ Two word number → ⊥)
    → value_in s text ≡ Err bad_line
no_value_without_two s text f spaced are h =
    value_in_spaced s text spaced ∙ value_of_other s (fields_of text) (not_two text f are h)

-- ---- a line's reading, with its number
fails_numbered : {X : Type 0} (number : ℕ) (fault : line.LineFault) (read : Result X LineFault) → Fails fault read
    → FailsAtLine (fault_at number fault) (numbered_reading number read)
fails_numbered number faults.BadLine read h = ap (numbered_reading number) h
fails_numbered number faults.BadNumber read h = ap (numbered_reading number) h
fails_numbered number faults.BadHex read h = ap (numbered_reading number) h
fails_numbered number faults.OutOfRange read h = ap (numbered_reading number) h
fails_numbered number faults.NoMemory read h = (h.0, ap (numbered_reading number) h.1)

line_fails : {X : Type 0} (fault : script.ScriptFault) (read : Read X) → FailsAtLine fault read → FailsAt fault read
line_fails (scripts.BadLine n) read h = h
line_fails (scripts.BadNumber n) read h = h
line_fails (scripts.BadHex n) read h = h
line_fails (scripts.OutOfRange n) read h = h
line_fails scripts.NoMemory read h = tt

gives_numbered : {X Y : Type 0} (view : X → Y) (number : ℕ) (r : Result X line.LineFault) (read : Result Y LineFault)
    → Gives view r read → GivesAt view (reading_at number r) (numbered_reading number read)
gives_numbered view number (Ok x) read h = ap (numbered_reading number) h
gives_numbered view number (Err fault) read h =
    line_fails (fault_at number fault) (numbered_reading number read) (fails_numbered number fault read h)

-- ---- one setting
setting_from_line : (end : ℕ) (s : Setting) (left : List NumberedLine) (number : ℕ) (text : List ℕ)
    (rest : List NumberedLine) → left ≡ (number, text) ∷ rest
    → setting_from end s left ≡ (numbered_reading number (value_in s text) >>= λ value. setting_and value rest)
unfolding setting_from
setting_from_line end s left number text rest h = ap (setting_from end s) h

setting_and_gives : {X : Type 0} (view : X → ℕ) (r : Result X script.ScriptFault) (read : Read ℕ)
    (rest : List NumberedLine) → GivesAt view r read
    → GivesAt (λ x. (view x, rest)) r (read >>= λ value. setting_and value rest)
setting_and_gives view (Ok x) read rest h = ap (λ (read : Read ℕ). read >>= λ value. setting_and value rest) h
setting_and_gives view (Err fault) read rest h = fails_then fault read (λ value. setting_and value rest) h

pub setting_read : {X : Type 0} (view : X → ℕ) (end : ℕ) (s : Setting) (left : List NumberedLine) (number : ℕ)
    (text : List ℕ) (rest : List NumberedLine) (q : Result X line.LineFault) (r : Result X script.ScriptFault)
    → left ≡ (number, text) ∷ rest → Gives view q (value_in s text) → r ≡ reading_at number q
    → GivesAt (λ x. (view x, rest)) r (setting_from end s left)
setting_read {X} view end s left number text rest q r h gives is =
    let here =
    setting_and_gives view (reading_at number q) (numbered_reading number (value_in s text)) rest
    (gives_numbered view number q (value_in s text) gives) in
    let turned =
    subst (λ (read : Read (ℕ × List NumberedLine)). GivesAt (λ x. (view x, rest)) (reading_at number q) read)
    (sym (setting_from_line end s left number text rest h)) here in
    subst (λ (r : Result X script.ScriptFault). GivesAt (λ x. (view x, rest)) r (setting_from end s left)) (sym is)
    turned

pub setting_missing : (end : ℕ) (s : Setting) (left : List NumberedLine) (number : ℕ) → left ≡ [] → end ≡ number
    → setting_from end s left ≡ Err (number, bad_line)
unfolding setting_from
setting_missing end s left number h is =
    ap (setting_from end s) h ∙ ap (λ (n : ℕ). let r : Read (ℕ × List NumberedLine) = Err (n, bad_line) in r) is

-- ---- the start line
start_from_line : (pages : ℕ) (left : List NumberedLine) (number : ℕ) (text : List ℕ) (rest : List NumberedLine)
    → left ≡ (number, text) ∷ rest → is_start_line text ≡ true
    → start_from pages left
    ≡ (numbered_reading number (value_in (start_setting pages) text) >>= λ value. setting_and value rest)
unfolding start_from
start_from_line pages left number text rest h is = ap (start_from pages) h ∙ cond-true (is_start_line text) _ _ is

pub start_read : {X : Type 0} (view : X → ℕ) (pages : ℕ) (left : List NumberedLine) (number : ℕ) (text : List ℕ)
    (rest : List NumberedLine) (q : Result X line.LineFault) (r : Result X script.ScriptFault)
    → left ≡ (number, text) ∷ rest → is_start_line text ≡ true → Gives view q (value_in (start_setting pages) text)
    → r ≡ reading_at number q → GivesAt (λ x. (view x, rest)) r (start_from pages left)
start_read {X} view pages left number text rest q r h start gives is =
    let here =
    setting_and_gives view (reading_at number q) (numbered_reading number (value_in (start_setting pages) text))
    rest (gives_numbered view number q (value_in (start_setting pages) text) gives) in
    let turned =
    subst (λ (read : Read (ℕ × List NumberedLine)). GivesAt (λ x. (view x, rest)) (reading_at number q) read)
    (sym (start_from_line pages left number text rest h start)) here in
    subst (λ (r : Result X script.ScriptFault). GivesAt (λ x. (view x, rest)) r (start_from pages left)) (sym is) turned

pub no_start_line : (pages : ℕ) (left : List NumberedLine) (number : ℕ) (text : List ℕ) (rest : List NumberedLine)
    → left ≡ (number, text) ∷ rest → is_start_line text ≡ false → start_from pages left ≡ Ok (START_FILL, left)
unfolding start_from
no_start_line pages left number text rest h other =
    ap (start_from pages) h ∙ cond-false (is_start_line text) _ _ other
    ∙ ap (λ (ls : List NumberedLine). let r : Read (ℕ × List NumberedLine) = Ok (START_FILL, ls) in r) (sym h)

pub no_line_to_start : (pages : ℕ) (left : List NumberedLine) → left ≡ []
    → start_from pages left ≡ Ok (START_FILL, left)
unfolding start_from
no_line_to_start pages left h =
    ap (start_from pages) h
    ∙ ap (λ (ls : List NumberedLine). let r : Read (ℕ × List NumberedLine) = Ok (START_FILL, ls) in r) (sym h)

-- ---- a command with its number
pub puts_numbered : (number : ℕ) (q : Result Kept line.LineFault) (r : Result Kept script.ScriptFault)
    (old new : List ℕ) (read : Result Command LineFault) → PutsCommand q old new read → r ≡ reading_at number q
    → PutsCommandAt r old new (numbered_reading number read)
puts_numbered number q r old new read h is =
    subst (λ (r : Result Kept script.ScriptFault). PutsCommandAt r old new (numbered_reading number read)) (sym is)
    (by q h)
  where
    by : (q : Result Kept line.LineFault) → PutsCommand q old new read
        → PutsCommandAt (reading_at number q) old new (numbered_reading number read)
    by (Ok order) h = (h.0, h.1, ap (numbered_reading number) h.2)
    by (Err fault) h = fails_numbered number fault read h

-- ---- the commands of the lines that are left
abbrev pub Commands : Type 0
Commands = List (ℕ × Command)

abbrev commands_onto : Commands → Commands → Read Commands
commands_onto front commands = Ok (front ++ commands)

-- this command, then those of the lines after it
abbrev rest_then : ℕ → ℕ → ℕ → List NumberedLine → Command → Read Commands
rest_then cpus collectors number rest command =
    commands_from cpus collectors rest >>= λ commands. Ok ((number, command) ∷ commands)

commands_from_line : (cpus collectors : ℕ) (left : List NumberedLine) (number : ℕ) (text : List ℕ)
    (rest : List NumberedLine) → left ≡ (number, text) ∷ rest
    → commands_from cpus collectors left
    ≡ (numbered_reading number (command_in cpus collectors text) >>= rest_then cpus collectors number rest)
unfolding commands_from
commands_from_line cpus collectors left number text rest h = ap (commands_from cpus collectors) h

pub commands_fail : (cpus collectors : ℕ) (all left : List NumberedLine) (number : ℕ) (text : List ℕ)
    (rest : List NumberedLine) (front : Commands) (fault : script.ScriptFault)
    → commands_from cpus collectors all ≡ (commands_from cpus collectors left >>= commands_onto front)
    → left ≡ (number, text) ∷ rest
    → FailsAtLine fault (numbered_reading number (command_in cpus collectors text))
    → FailsAt fault (commands_from cpus collectors all)
commands_fail cpus collectors all left number text rest front fault so_far h fails =
    let line = line_fails fault (numbered_reading number (command_in cpus collectors text)) fails in
    let here =
    fails_then fault (numbered_reading number (command_in cpus collectors text))
    (rest_then cpus collectors number rest) line in
    let there =
    subst (λ (read : Read Commands). FailsAt fault read)
    (sym (commands_from_line cpus collectors left number text rest h)) here in
    subst (λ (read : Read Commands). FailsAt fault read) (sym so_far)
    (fails_then fault (commands_from cpus collectors left) (commands_onto front) there)

onto_push : (front : Commands) (command : ℕ × Command) (r : Read Commands)
    → ((r >>= λ commands. (let more : Read Commands = Ok (command ∷ commands) in more)) >>= commands_onto front)
    ≡ (r >>= commands_onto (front ++ command ∷ []))
onto_push front command (Ok commands) =
    ap (λ (cs : Commands). let r : Read Commands = Ok cs in r) (sym (append_assoc front (command ∷ []) commands))
onto_push front command (Err e) = refl

pub commands_turn : (cpus collectors : ℕ) (all left : List NumberedLine) (number : ℕ) (text : List ℕ)
    (rest : List NumberedLine) (front after : Commands) (command : Command)
    → commands_from cpus collectors all ≡ (commands_from cpus collectors left >>= commands_onto front)
    → left ≡ (number, text) ∷ rest
    → numbered_reading number (command_in cpus collectors text) ≡ Ok command → after ≡ front ++ (number, command) ∷ []
    → commands_from cpus collectors all ≡ (commands_from cpus collectors rest >>= commands_onto after)
commands_turn cpus collectors all left number text rest front after command so_far h is more =
    so_far
    ∙ ap (λ (r : Read Commands). r >>= commands_onto front)
    (commands_from_line cpus collectors left number text rest h
    ∙ ap (λ (r : Read Command). r >>= rest_then cpus collectors number rest) is)
    ∙ onto_push front (number, command) (commands_from cpus collectors rest)
    ∙ ap (λ (cs : Commands). commands_from cpus collectors rest >>= commands_onto cs) (sym more)

pub commands_end : (cpus collectors : ℕ) (all left : List NumberedLine) (front : Commands)
    → commands_from cpus collectors all ≡ (commands_from cpus collectors left >>= commands_onto front) → left ≡ []
    → commands_from cpus collectors all ≡ Ok front
unfolding commands_from
commands_end cpus collectors all left front so_far h =
    so_far
    ∙ ap (λ (ls : List NumberedLine). commands_from cpus collectors ls >>= commands_onto front) h
    ∙ ap (λ (cs : Commands). let r : Read Commands = Ok cs in r) (append-nil front)

-- a fault that is passed on is the same one
pub same_fault : {X Y : Type 0} (r : Result X script.ScriptFault) (handed own fault : script.ScriptFault)
    → r ≡ Err handed → handed ≡ own → r ≡ Err fault
    → (let other : Result Y script.ScriptFault = Err own in other) ≡ Err fault
same_fault r handed own fault is same refused = cc

-- ---- the commands up to a line
spell_push : (cpus collectors : ℕ) (front : List NumberedLine) (commands : Commands) (number : ℕ) (text : List ℕ)
    (command : Command) → SpellCommands cpus collectors front commands
    → command_in cpus collectors text ≡ Ok command
    → SpellCommands cpus collectors (front ++ (number, text) ∷ []) (commands ++ (number, command) ∷ [])
spell_push cpus collectors [] [] number text command h is = (is, refl, tt)
spell_push cpus collectors (line ∷ front) (c ∷ commands) number text command h is =
    (h.0, h.1, spell_push cpus collectors front commands number text command h.2 is)
spell_push cpus collectors [] (c ∷ commands) number text command h is = absurd h
spell_push cpus collectors (line ∷ front) [] number text command h is = absurd h

number_away : (number : ℕ) (read : Result Command LineFault) (command : Command)
    → numbered_reading number read ≡ Ok command → read ≡ Ok command
number_away number (Ok other) command h = cc
number_away number (Err fault) command h = absurd (ok_is_no_err command (number, fault) (sym h))

pub read_turn : (cpus collectors : ℕ) (all left : List NumberedLine) (number : ℕ) (text : List ℕ)
    (rest : List NumberedLine) (front after : Commands) (command : Command)
    → ReadAs cpus collectors all front left → left ≡ (number, text) ∷ rest
    → numbered_reading number (command_in cpus collectors text) ≡ Ok command
    → after ≡ front ++ (number, command) ∷ []
    → ReadAs cpus collectors all after rest
read_turn cpus collectors all left number text rest front after command r h is more = record {
  front = r.front ++ (number, text) ∷ [];
  cut =
      r.cut ∙ ap (λ (ls : List NumberedLine). r.front ++ ls) h ∙ sym (append_assoc r.front ((number, text) ∷ []) rest);
  spelled = subst (λ (cs : Commands). SpellCommands cpus collectors (r.front ++ (number, text) ∷ []) cs) (sym more)
      (spell_push cpus collectors r.front front number text command r.spelled
      (number_away number (command_in cpus collectors text) command is));
}

-- a line more was read, and so there is some
pub line_read : (cpus collectors : ℕ) (all left : List NumberedLine) (number : ℕ) (text : List ℕ)
    (rest : List NumberedLine) (front : Commands) (command : Command)
    → ReadAs cpus collectors all front left → left ≡ (number, text) ∷ rest
    → numbered_reading number (command_in cpus collectors text) ≡ Ok command → BeginAsCommands cpus collectors all
line_read cpus collectors all left number text rest front command r h is = (
  front ++ (number, command) ∷ [],
  rest,
  read_turn cpus collectors all left number text rest front (front ++ (number, command) ∷ []) command r h is
      refl,
  let len =
      length-append front ((number, command) ∷ []) in
      omega arith,
)

-- and memory ran out there
pub line_refused : (cpus collectors : ℕ) (all left : List NumberedLine) (number : ℕ) (text : List ℕ)
    (rest : List NumberedLine) (front : Commands) (fault : script.ScriptFault)
    → ReadAs cpus collectors all front left → left ≡ (number, text) ∷ rest
    → FailsAtLine fault (numbered_reading number (command_in cpus collectors text)) → fault ≡ scripts.NoMemory
    → BeginAsCommands cpus collectors all
line_refused cpus collectors all left number text rest front fault r h fails is =
    let (command, reads) =
    subst (λ (f : script.ScriptFault). FailsAtLine f (numbered_reading number (command_in cpus collectors text))) is
    fails in
    line_read cpus collectors all left number text rest front command r h reads

-- ---- the whole script
-- a header, perhaps a start line, and then lines that spell commands
begins_as : (text : List ℕ) (end : ℕ) (header : Header) (behind : List NumberedLine) (start : ℕ)
    (left rest : List NumberedLine) (commands : Commands)
    → settings_from end model.header_settings (significant_lines_after 0 text) ≡ Ok (values_of header, behind)
    → start_from header.pages behind ≡ Ok (start, left) → ReadAs header.cpus header.collectors left commands rest
    → 0 < length commands → BeginsAsScript text
unfolding significant_lines_after
begins_as text end header behind start left rest commands settings first each some =
    let h =
    settings_ok end model.header_settings (significant_lines_after 0 text) (values_of header, behind) settings in
    let s = start_ok header.pages behind (start, left) first in
    record {
      front = h.0 ++ (s.start_line ++ each.front);
      behind = rest;
      cut = h.1
          ∙ ap (λ (ls : List NumberedLine). h.0 ++ ls)
          (s.cut ∙ ap (λ (ls : List NumberedLine). s.start_line ++ ls) each.cut
          ∙ sym (append_assoc s.start_line each.front rest))
          ∙ sym (append_assoc h.0 (s.start_line ++ each.front) rest);
      script = script_of header start commands;
      spelled =
          record {
            header = h.0;
            start_line = s.start_line;
            behind = each.front;
            cut = refl;
            settings = h.2;
            start = s.gives;
            commands = each.spelled;
          };
      some = some;
    }

-- a text begins as a script, by the reader's lines, of which none is passed
pub begins_there : (text : List ℕ) (end passed : ℕ) (rest : List ℕ) (header : Header) (behind : List NumberedLine)
    (start : ℕ) (left : List NumberedLine) → passed ≡ 0 → rest ≡ text
    → settings_from end model.header_settings (significant_lines_after passed rest) ≡ Ok (values_of header, behind)
    → start_from header.pages behind ≡ Ok (start, left) → BeginAsCommands header.cpus header.collectors left
    → BeginsAsScript text
begins_there text end passed rest header behind start left none whole h first (commands, others, each, some) =
    begins_as text end header behind start left others commands
    (subst
    (λ (t : List ℕ).
    settings_from end model.header_settings (significant_lines_after 0 t) ≡ Ok (values_of header, behind))
    whole
    (subst
    (λ (n : ℕ).
    settings_from end model.header_settings (significant_lines_after n rest) ≡ Ok (values_of header, behind)) none
    h)) first each some

-- pieces that are read one after the other make a script
script_made : (end : ℕ) (lines : List NumberedLine) (header : Header) (behind : List NumberedLine) (start : ℕ)
    (left : List NumberedLine) (commands : Commands)
    → settings_from end model.header_settings lines ≡ Ok (values_of header, behind)
    → start_from header.pages behind ≡ Ok (start, left)
    → commands_from header.cpus header.collectors left ≡ Ok commands
    → script_from end lines ≡ Ok (script_of header start commands)
unfolding script_from
script_made end lines header behind start left commands settings first each = rw (settings, first, each) refl

-- and that script is within its limits
pub read_within : (text : List ℕ) (passed : ℕ) (rest : List ℕ) (header : Header) (behind : List NumberedLine)
    (start : ℕ) (left : List NumberedLine) (commands : Commands)
    → passed ≡ 0 → rest ≡ text
    → settings_from (end_line_after passed rest) model.header_settings (significant_lines_after passed rest)
    ≡ Ok (values_of header, behind)
    → start_from header.pages behind ≡ Ok (start, left) → commands_from header.cpus header.collectors left ≡ Ok commands
    → IsWithinLimits (script_of header start commands)
read_within text passed rest header behind start left commands none whole settings first each =
    let made =
    script_made (end_line_after passed rest) (significant_lines_after passed rest) header behind start left commands
    settings first each in
    let here : by_lines text ≡ Ok (script_of header start commands) =
    subst
    (λ (t : List ℕ).
    script_from (end_line_after 0 t) (significant_lines_after 0 t) ≡ Ok (script_of header start commands)) whole
    (subst
    (λ (n : ℕ).
    script_from (end_line_after n rest) (significant_lines_after n rest) ≡ Ok (script_of header start commands))
    none made) in
    ParsesScript-within text (script_of header start commands)
    ((script_reads text (script_of header start commands)).1 (script_in_by_lines text ∙ here))

fault_of_reading : (text : List ℕ) (fault : script.ScriptFault) → FailsAt fault (by_lines text)
    → (fault ≡ scripts.NoMemory → BeginsAsScript text) → ReportsFirstFault text fault
fault_of_reading text (scripts.BadLine n) h memory = (fault_reads text n bad_line).1 (script_in_by_lines text ∙ h)
fault_of_reading text (scripts.BadNumber n) h memory = (fault_reads text n bad_number).1 (script_in_by_lines text ∙ h)
fault_of_reading text (scripts.BadHex n) h memory = (fault_reads text n bad_hex).1 (script_in_by_lines text ∙ h)
fault_of_reading text (scripts.OutOfRange n) h memory =
    (fault_reads text n out_of_range).1 (script_in_by_lines text ∙ h)
fault_of_reading text scripts.NoMemory h memory = memory refl

pub script_found : (text : List ℕ) (r : Result model.Script script.ScriptFault) → GivesAt (λ s. s) r (by_lines text)
    → IfOk r (λ s. ParsesScript text s)
script_found text (Ok s) h = (script_reads text s).1 (script_in_by_lines text ∙ h)
script_found text (Err fault) h = tt

pub fault_found : (text : List ℕ) (r : Result model.Script script.ScriptFault) → GivesAt (λ s. s) r (by_lines text)
    → (r ≡ Err scripts.NoMemory → BeginsAsScript text) → IfErr r (λ fault. ReportsFirstFault text fault)
fault_found text (Ok s) h memory = tt
fault_found text (Err fault) h memory =
    fault_of_reading text fault h
    (λ is. memory (ap (λ (f : script.ScriptFault). let r : Result model.Script script.ScriptFault = Err f in r) is))
