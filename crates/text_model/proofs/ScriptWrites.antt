-- A script that is written is read back.
use Rattle.std.proofs.Common.{◌≡◌, ℕ, ◌+◌, ◌^◌, ◌<◌, ◌≤◌, ◌-◌, ◌&&◌, true, cond, leb, List, [], ◌∷◌, length, map}
use Rattle.std.proofs.Common.{filter, decimal, Result, Ok, Err, refl, sym, ◌∙◌, ap, subst, arith}
use Rattle.std.specs.List.{list_all, enumerate_from, AllByRecursion}
use Rattle.std.proofs.lemmas.Bool.{lt-ltb, le-leb, and_from, cond-true}
use Rattle.std.proofs.lemmas.List.Elements.{recursion_from_All}
use Rattle.trace_model.specs.declared.limits.TheConstants.{LINK_FILLS}
use Rattle.text_model.specs.Text.{is_well_spaced, hex_text}
use Rattle.text_model.specs.ScriptLines.{LineFault, bad_line, out_of_range, NumberedLine, ◌>>=◌, is_significant}
use Rattle.text_model.specs.ScriptLines.{significant_lines, pages_setting, size_setting}
use Rattle.text_model.specs.LineWriting.{text_of, cpu_text, setting_text}
use Rattle.text_model.proofs.TextLemmas.{decimal_in-decimal, payload_in-hex_text, hex_text_free, some_hex_text}
use Rattle.text_model.specs.declared.script_limits.TheConstants.{MIN_LINE_STEPS, MAX_LINE_STEPS}
use Rattle.text_model.specs.Script.{Command, begin_frame, step_frame, finish_frame, write, close, step_reader}
use Rattle.text_model.specs.Script.{take_page, wish, deliver, Script, count_in, command_of, command_in, cpus_setting}
use Rattle.text_model.specs.Script.{collectors_setting, start_setting, SpellCommands, ParsesScript}
use Rattle.text_model.specs.ScriptWriting.{command_fields, command_text, script_text}
use Rattle.text_model.specs.ScriptLimits.{IsCommandWithin, IsWithinLimits}
use Rattle.text_model.proofs.LineWrites.{is_free, fields_of-line_of, is_free-line_of, lines_of-text_of, all_significant}
use Rattle.text_model.proofs.LineWrites.{decimal_free, cpu_free, some_cpu, some_decimal, cpu_in-cpu_text}
use Rattle.text_model.proofs.LineWrites.{number_below-decimal, setting_spelled}
use Rattle.text_model.proofs.CommandTable.{spelled_command}

-- ---- commands
-- what the fields of a command are made of: none is empty, and no byte of them ends a field or a line
record AreFields (fields : List (List ℕ)) : Type 0 where
  spaced : is_well_spaced fields ≡ true
  no_space : list_all (is_free 32) fields ≡ true
  no_feed : list_all (is_free 10) fields ≡ true

no_fields : AreFields []
no_fields = record { spaced = refl; no_space = refl; no_feed = refl }

decimal_then : (n : ℕ) (fields : List (List ℕ)) → n < 2 ^ 64 → AreFields fields → AreFields (decimal n ∷ fields)
decimal_then n fields fits rest = record {
  spaced = and_from _ _ (some_decimal n fits) rest.spaced;
  no_space = and_from _ _ (decimal_free 32 n (omega arith) fits) rest.no_space;
  no_feed = and_from _ _ (decimal_free 10 n (omega arith) fits) rest.no_feed;
}

cpu_then : (cpu : ℕ) (fields : List (List ℕ)) → cpu < 2 ^ 64 → AreFields fields → AreFields (cpu_text cpu ∷ fields)
cpu_then cpu fields fits rest = record {
  spaced = and_from _ _ (some_cpu cpu) rest.spaced;
  no_space = and_from _ _ (cpu_free 32 cpu (omega arith) fits) rest.no_space;
  no_feed = and_from _ _ (cpu_free 10 cpu (omega arith) fits) rest.no_feed;
}

payload_then : (payload : List ℕ) (fields : List (List ℕ)) → AllByRecursion (λ byte. byte < 256) payload
    → AreFields fields → AreFields (hex_text payload ∷ fields)
payload_then payload fields bytes rest = record {
  spaced = and_from _ _ (lt-ltb 0 (length (hex_text payload)) (some_hex_text payload)) rest.spaced;
  no_space = and_from _ _ (hex_text_free 32 payload (omega arith) bytes) rest.no_space;
  no_feed = and_from _ _ (hex_text_free 10 payload (omega arith) bytes) rest.no_feed;
}

-- a word of one letter
letter_then : (letter : ℕ) (fields : List (List ℕ)) → is_free 32 (letter ∷ []) ≡ true → is_free 10 (letter ∷ []) ≡ true
    → AreFields fields → AreFields ((letter ∷ []) ∷ fields)
letter_then letter fields no_space no_feed rest = record {
  spaced = rest.spaced;
  no_space = and_from _ _ no_space rest.no_space;
  no_feed = and_from _ _ no_feed rest.no_feed;
}

count_in-decimal : (n : ℕ) → MIN_LINE_STEPS ≤ n → n ≤ MAX_LINE_STEPS → count_in (decimal n) ≡ Ok n
unfolding count_in
count_in-decimal n low high =
    ap (λ (r : Result ℕ LineFault). r >>= λ n.
    cond (leb MIN_LINE_STEPS n && leb n MAX_LINE_STEPS) (let good : Result ℕ LineFault = Ok n in good)
    (Err out_of_range)) (decimal_in-decimal n (omega arith))
    ∙ cond-true _ _ _ (and_from _ _ (le-leb MIN_LINE_STEPS n low) (le-leb n MAX_LINE_STEPS high))

-- the command of these fields, and what the fields are made of
record IsSpelled (cpus collectors : ℕ) (command : Command) : Type 0 where
  read : command_of cpus collectors (command_fields command) ≡ Ok command
  fields : AreFields (command_fields command)
  some : 0 < length (command_fields command)
  significant : is_significant (command_text command) ≡ true

fields_spelled : (cpus collectors : ℕ) (command : Command) → cpus ≤ 2 ^ 64 → collectors ≤ 2 ^ 64
    → IsCommandWithin cpus collectors command → IsSpelled cpus collectors command
fields_spelled cpus collectors (begin_frame cpu moment payload) few_cpus few_collectors h =
    let fits : cpu < 2 ^ 64 = omega (arith, h.0) in
    let bytes = recursion_from_All (λ byte. byte < 256) payload h.2 in
    record {
      read =
          spelled_command cpus collectors (command_fields (begin_frame cpu moment payload))
          (begin_frame cpu moment payload) (
            cpu_text cpu,
            decimal moment,
            hex_text payload,
            refl,
            cpu_in-cpu_text cpus cpu h.0 fits,
            decimal_in-decimal moment h.1,
            payload_in-hex_text payload bytes,
          );
      fields =
          cpu_then cpu _ fits (letter_then 98 _ refl refl
          (decimal_then moment _ h.1 (payload_then payload _ bytes no_fields)));
      some = omega arith;
      significant = refl;
    }
fields_spelled cpus collectors (step_frame cpu count) few_cpus few_collectors h =
    let fits : cpu < 2 ^ 64 = omega (arith, h.0) in
    let small : count < 2 ^ 64 = (let most = h.2 in omega (arith, most)) in
    record {
      read = spelled_command cpus collectors (command_fields (step_frame cpu count)) (step_frame cpu count)
          (cpu_text cpu, decimal count, refl, cpu_in-cpu_text cpus cpu h.0 fits, count_in-decimal count h.1 h.2);
      fields = cpu_then cpu _ fits (letter_then 115 _ refl refl (decimal_then count _ small no_fields));
      some = omega arith;
      significant = refl;
    }
fields_spelled cpus collectors (finish_frame cpu) few_cpus few_collectors h =
    let fits : cpu < 2 ^ 64 = omega (arith, h) in
    record {
      read =
          spelled_command cpus collectors (command_fields (finish_frame cpu)) (finish_frame cpu)
          (cpu_text cpu, refl, cpu_in-cpu_text cpus cpu h fits);
      fields = cpu_then cpu _ fits (letter_then 102 _ refl refl no_fields);
      some = omega arith;
      significant = refl;
    }
fields_spelled cpus collectors (write cpu moment payload) few_cpus few_collectors h =
    let fits : cpu < 2 ^ 64 = omega (arith, h.0) in
    let bytes = recursion_from_All (λ byte. byte < 256) payload h.2 in
    record {
      read = spelled_command cpus collectors (command_fields (write cpu moment payload)) (write cpu moment payload) (
        cpu_text cpu,
        decimal moment,
        hex_text payload,
        refl,
        cpu_in-cpu_text cpus cpu h.0 fits,
        decimal_in-decimal moment h.1,
        payload_in-hex_text payload bytes,
      );
      fields =
          cpu_then cpu _ fits (letter_then 119 _ refl refl
          (decimal_then moment _ h.1 (payload_then payload _ bytes no_fields)));
      some = omega arith;
      significant = refl;
    }
fields_spelled cpus collectors (close cpu) few_cpus few_collectors h =
    let fits : cpu < 2 ^ 64 = omega (arith, h) in
    record {
      read =
          spelled_command cpus collectors (command_fields (close cpu)) (close cpu)
          (cpu_text cpu, refl, cpu_in-cpu_text cpus cpu h fits);
      fields = cpu_then cpu _ fits (letter_then 99 _ refl refl no_fields);
      some = omega arith;
      significant = refl;
    }
fields_spelled cpus collectors (step_reader cpu count) few_cpus few_collectors h =
    let fits : cpu < 2 ^ 64 = omega (arith, h.0) in
    let small : count < 2 ^ 64 = (let most = h.2 in omega (arith, most)) in
    record {
      read = spelled_command cpus collectors (command_fields (step_reader cpu count)) (step_reader cpu count)
          (cpu_text cpu, decimal count, refl, cpu_in-cpu_text cpus cpu h.0 fits, count_in-decimal count h.1 h.2);
      fields = cpu_then cpu _ fits (letter_then 114 _ refl refl (decimal_then count _ small no_fields));
      some = omega arith;
      significant = refl;
    }
fields_spelled cpus collectors (take_page cpu) few_cpus few_collectors h =
    let fits : cpu < 2 ^ 64 = omega (arith, h) in
    record {
      read =
          spelled_command cpus collectors (command_fields (take_page cpu)) (take_page cpu)
          (cpu_text cpu, refl, cpu_in-cpu_text cpus cpu h fits);
      fields = cpu_then cpu _ fits (letter_then 116 _ refl refl no_fields);
      some = omega arith;
      significant = refl;
    }
fields_spelled cpus collectors (wish cpu) few_cpus few_collectors h =
    let fits : cpu < 2 ^ 64 = omega (arith, h) in
    record {
      read =
          spelled_command cpus collectors (command_fields (wish cpu)) (wish cpu)
          (cpu_text cpu, refl, cpu_in-cpu_text cpus cpu h fits);
      fields = cpu_then cpu _ fits (letter_then 97 _ refl refl no_fields);
      some = omega arith;
      significant = refl;
    }
fields_spelled cpus collectors (deliver collector cpu fill) few_cpus few_collectors h =
    let fits : cpu < 2 ^ 64 = omega (arith, h.1) in
    let small : collector < 2 ^ 64 = omega (arith, h.0) in
    let made : Command = deliver collector cpu fill in
    record {
      read = spelled_command cpus collectors (command_fields made) made (
        decimal collector,
        cpu_text cpu,
        decimal fill,
        refl,
        number_below-decimal collectors collector h.0 small,
        cpu_in-cpu_text cpus cpu h.1 fits,
        decimal_in-decimal fill h.2,
      );
      fields =
          letter_then 100 _ refl refl (decimal_then collector _ small
          (cpu_then cpu _ fits (decimal_then fill _ h.2 no_fields)));
      some = omega arith;
      significant = refl;
    }

pub command_in-command_text : (cpus collectors : ℕ) (command : Command) → cpus ≤ 2 ^ 64 → collectors ≤ 2 ^ 64
    → IsCommandWithin cpus collectors command
    → command_in cpus collectors (command_text command) ≡ Ok command
unfolding command_in
command_in-command_text cpus collectors command few_cpus few_collectors h =
    let s = fields_spelled cpus collectors command few_cpus few_collectors h in
    let fields = fields_of-line_of (command_fields command) s.some s.fields.no_space in
    ap (λ (fs : List (List ℕ)). cond (is_well_spaced fs) (command_of cpus collectors fs) (Err bad_line)) fields
    ∙ cond-true (is_well_spaced (command_fields command)) _ _ s.fields.spaced
    ∙ s.read

-- ---- the script
command_texts-enumerate : (n : ℕ) (commands : List Command)
    → map (λ (x : ℕ × Command). command_text x.1) (enumerate_from n commands) ≡ map command_text commands
command_texts-enumerate n [] = refl
command_texts-enumerate n (command ∷ commands) =
    ap (λ (ls : List (List ℕ)). command_text command ∷ ls) (command_texts-enumerate (n + 1) commands)

commands_no_feed : (cpus collectors : ℕ) (commands : List Command) → cpus ≤ 2 ^ 64 → collectors ≤ 2 ^ 64
    → AllByRecursion (IsCommandWithin cpus collectors) commands
    → list_all (is_free 10) (map command_text commands) ≡ true
commands_no_feed cpus collectors [] few_cpus few_collectors h = refl
commands_no_feed cpus collectors (command ∷ commands) few_cpus few_collectors h =
    let s = fields_spelled cpus collectors command few_cpus few_collectors h.0 in
    and_from _ _ (is_free-line_of (command_fields command) s.fields.no_feed)
    (commands_no_feed cpus collectors commands few_cpus few_collectors h.1)

commands_are_significant : (cpus collectors : ℕ) (commands : List Command) → cpus ≤ 2 ^ 64 → collectors ≤ 2 ^ 64
    → AllByRecursion (IsCommandWithin cpus collectors) commands
    → list_all is_significant (map command_text commands) ≡ true
commands_are_significant cpus collectors [] few_cpus few_collectors h = refl
commands_are_significant cpus collectors (command ∷ commands) few_cpus few_collectors h =
    let s = fields_spelled cpus collectors command few_cpus few_collectors h.0 in
    and_from _ _ s.significant (commands_are_significant cpus collectors commands few_cpus few_collectors h.1)

commands_spelled : (cpus collectors n : ℕ) (commands : List Command) → cpus ≤ 2 ^ 64 → collectors ≤ 2 ^ 64
    → AllByRecursion (IsCommandWithin cpus collectors) commands
    → SpellCommands cpus collectors (enumerate_from n (map command_text commands)) (enumerate_from n commands)
commands_spelled cpus collectors n [] few_cpus few_collectors h = tt
commands_spelled cpus collectors n (command ∷ commands) few_cpus few_collectors h = (
  command_in-command_text cpus collectors command few_cpus few_collectors h.0,
  refl,
  commands_spelled cpus collectors
      (n + 1) commands few_cpus few_collectors h.1,
)

-- the lines of a script, with these after its start line
abbrev lines_for : Script → List (List ℕ) → List (List ℕ)
lines_for script behind = setting_text pages_setting script.pages
    ∷ setting_text size_setting script.size
    ∷ setting_text cpus_setting script.cpus
    ∷ setting_text collectors_setting script.collectors
    ∷ setting_text (start_setting script.pages) script.start
    ∷ behind

commands_within : (P : Command → Type 0) (n : ℕ) (commands : List Command)
    → AllByRecursion (λ (line : ℕ × Command). P line.1) (enumerate_from n commands) → AllByRecursion P commands
commands_within P n [] h = tt
commands_within P n (command ∷ commands) h = (h.0, commands_within P (n + 1) commands h.1)

pub script_text_reads : (script : Script) (commands : List Command) → IsWithinLimits script
    → script.commands ≡ enumerate_from 6 commands → ParsesScript (script_text script) script
script_text_reads script commands h numbers =
    let within : (line : ℕ × Command) → Type 0 = λ line. IsCommandWithin script.cpus script.collectors line.1 in
    let each : AllByRecursion (IsCommandWithin script.cpus script.collectors) commands =
    commands_within (IsCommandWithin script.cpus script.collectors) 6 commands
    (subst (λ (lines : List (ℕ × Command)). AllByRecursion within lines) numbers
    (recursion_from_All within script.commands h.each_command)) in
    let few_cpus : script.cpus ≤ 2 ^ 64 = (let below = h.max_cpus in omega arith) in
    let few_collectors : script.collectors ≤ 2 ^ 64 = (let below = h.max_collectors in omega arith) in
    let pages =
    setting_spelled pages_setting script.pages (omega arith) refl refl (omega arith) h.min_pages h.max_pages
    (omega arith) in
    let size =
    setting_spelled size_setting script.size (omega arith) refl refl
    (omega arith) h.min_size h.max_size h.size_step in
    let cpus =
    setting_spelled cpus_setting script.cpus (omega arith) refl refl (omega arith) h.min_cpus h.max_cpus
    (omega arith) in
    let collectors =
    setting_spelled collectors_setting script.collectors (omega arith) refl refl
    (omega arith) h.min_collectors h.max_collectors (omega arith) in
    let last =
    (let below = h.max_start in let most : script.start ≤ LINK_FILLS - 1 - script.pages = omega (arith, below) in
    most) in
    let start =
    setting_spelled (start_setting script.pages) script.start (omega arith) refl refl (omega arith) h.min_start last
    (omega arith) in
    let lines = lines_for script (map command_text commands) in
    let text : script_text script ≡ text_of lines =
    ap (λ (cs : List (ℕ × Command)). text_of (lines_for script (map (λ (x : ℕ × Command). command_text x.1) cs)))
    numbers
    ∙ ap (λ (ls : List (List ℕ)). text_of (lines_for script ls)) (command_texts-enumerate 6 commands) in
    let no_feed : list_all (is_free 10) lines ≡ true =
    and_from _ _ pages.no_feed (and_from _ _ size.no_feed
    (and_from _ _ cpus.no_feed (and_from _ _ collectors.no_feed (and_from _ _ start.no_feed
    (commands_no_feed script.cpus script.collectors commands few_cpus few_collectors each))))) in
    let significant : list_all is_significant lines ≡ true =
    commands_are_significant script.cpus script.collectors commands few_cpus few_collectors each in
    let all : significant_lines (script_text script) ≡ enumerate_from 1 lines =
    ap significant_lines text
    ∙ ap (λ (ls : List (List ℕ)). filter (λ (x : NumberedLine). is_significant x.1) (enumerate_from 1 ls))
    (lines_of-text_of lines no_feed)
    ∙ all_significant 1 lines significant in
    record {
      header =
          (1, setting_text pages_setting script.pages) ∷ (2, setting_text size_setting script.size) ∷
          (3, setting_text cpus_setting script.cpus) ∷ (4, setting_text collectors_setting script.collectors) ∷ [];
      start_line = (5, setting_text (start_setting script.pages) script.start) ∷ [];
      behind = enumerate_from 6 (map command_text commands);
      cut = all;
      settings = (pages.read, (size.read, (cpus.read, (collectors.read, tt))));
      start = start.read;
      commands =
          subst (λ (cs : List (ℕ × Command)). SpellCommands script.cpus script.collectors
          (enumerate_from 6 (map command_text commands)) cs) (sym numbers)
          (commands_spelled script.cpus script.collectors 6 commands few_cpus few_collectors each);
    }
