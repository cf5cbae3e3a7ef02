-- A line that is read from the front of a text.
use Rattle.std.proofs.Common.{◌≡◌, ◌==◌, ℕ, ◌+◌, ◌<◌, ◌≤◌, true, Option, Some, None, IfSome, MatchOption, false, List}
use Rattle.std.proofs.Common.{[], ◌∷◌, ◌++◌, length, codes, Ok, refl, sym, ◌∙◌, ap, subst, arith, append_assoc}
use Rattle.std.proofs.Common.{length-append}
use Rattle.std.specs.List.{slice_split, All}
use Rattle.std.proofs.lemmas.Bool.{both_ways, and_parts, eqb-true, cond-true, and_from, le-leb}
use Rattle.std.proofs.lemmas.List.{append-nil}
use Rattle.std.proofs.lemmas.List.Elements.{All-append, All-cons}
use Rattle.std.proofs.lemmas.List.Splits.{slice_split_at, slice_split_none}
use Rattle.text_model.specs.Text.{lines_of, fields_of}
use Rattle.text_model.specs.ScriptLines.{bad_line, decimal_in, names_cpu, cpu_in, is_significant}
use Rattle.text_model.specs.HeaderReading.{numbered_reading, significant_lines_after}
use Rattle.text_model.specs.LineWriting.{line_of}
use Rattle.text_model.specs.Script.{Command, begin_frame, step_frame, finish_frame, write, close, step_reader}
use Rattle.text_model.specs.Script.{take_page, wish, deliver, count_in, SpellsCommand}
use Rattle.text_model.specs.declared.script_limits.TheConstants.{MIN_LINE_STEPS, MAX_LINE_STEPS}
use Rattle.text_model.proofs.CommandTable.{spelled_command}
use Rattle.text_model.proofs.Readings.{ok_is_no_err, chosen}
use Rattle.trace_script.specs.declared.kept.Kind.{Kind}
use Rattle.trace_script.specs.declared.usual.UsualLine.{UsualLine}
use Rattle.trace_script.specs.declared.values.NumberCut.{NumberCut}
use Rattle.trace_script.specs.Kept.{Kept, command_shown, shown, PutsNext}
use Rattle.trace_script.specs.UsualLines.{IsCpuCut, BeginsWith, BeginsBehindCpu, IsUsual, IsUsualBehindCpu}
use Rattle.trace_script.proofs.OrderLemmas.{AreSolid, spelled_solid, solid_spaced, command_in_form}
use Rattle.trace_script.proofs.TextParts.{first_line, significant_turn}

-- ---- fields that are joined
fields_again : (fields : List (List ℕ)) → 0 < length fields → AreSolid fields → fields_of (line_of fields) ≡ fields
fields_again [] some solid = absurd (omega arith)
fields_again (f ∷ []) some solid = slice_split_none (λ b. b == 32) f solid.0.solid
fields_again (f ∷ g ∷ fields) some solid =
    slice_split_at (λ b. b == 32) f 32 (line_of (g ∷ fields)) solid.0.solid refl
    ∙ ap (λ (fs : List (List ℕ)). f ∷ fs) (fields_again (g ∷ fields) (omega arith) solid.1)

no_feed_in : (fields : List (List ℕ)) → 0 < length fields → AreSolid fields
    → All (λ b. (b == 10) ≡ false) (line_of fields)
no_feed_in [] some solid = absurd (omega arith)
no_feed_in (f ∷ []) some solid = solid.0.no_feed
no_feed_in (f ∷ g ∷ fields) some solid =
    All-append (λ b. (b == 10) ≡ false) f (32 ∷ line_of (g ∷ fields)) solid.0.no_feed
    (All-cons (λ b. (b == 10) ≡ false) 32 (line_of (g ∷ fields)) refl (no_feed_in (g ∷ fields) (omega arith) solid.1))

-- ---- a line that begins with a CPU's name or with `d` says something
letter_says : (x f : List ℕ) (fields : List (List ℕ)) → names_cpu x ≡ true
    → is_significant (line_of (x ∷ f ∷ fields)) ≡ true
letter_says [] f fields h = absurd (both_ways false refl h)
letter_says (letter ∷ digits) f fields h =
    let is : letter ≡ 99 = eqb-true letter 99 (and_parts _ _ (and_parts _ _ h).0).0 in
    ap (λ (n : ℕ). is_significant (n ∷ digits)) is

cpu_says : (cpus : ℕ) (x f : List ℕ) (fields : List (List ℕ)) (cpu : ℕ) → cpu_in cpus x ≡ Ok cpu
    → is_significant (line_of (x ∷ f ∷ fields)) ≡ true
unfolding cpu_in
cpu_says cpus x f fields cpu h =
    chosen (names_cpu x) _ _ cpu (λ is _. letter_says x f fields is)
    (λ other. absurd (ok_is_no_err cpu bad_line (sym other))) h

abbrev says : List (List ℕ) → Type 0
says fields = (0 < length fields) × (is_significant (line_of fields) ≡ true)

spelled_says : (cpus collectors : ℕ) (command : Command) (fields : List (List ℕ))
    → SpellsCommand cpus collectors command fields → says fields
spelled_says cpus collectors (begin_frame cpu moment payload) fields h =
    subst says (sym h.3) (omega arith, cpu_says cpus h.0 (codes "b") (h.1 ∷ h.2 ∷ []) cpu h.4)
spelled_says cpus collectors (step_frame cpu count) fields h =
    subst says (sym h.2) (omega arith, cpu_says cpus h.0 (codes "s") (h.1 ∷ []) cpu h.3)
spelled_says cpus collectors (finish_frame cpu) fields h =
    subst says (sym h.1) (omega arith, cpu_says cpus h.0 (codes "f") [] cpu h.2)
spelled_says cpus collectors (write cpu moment payload) fields h =
    subst says (sym h.3) (omega arith, cpu_says cpus h.0 (codes "w") (h.1 ∷ h.2 ∷ []) cpu h.4)
spelled_says cpus collectors (close cpu) fields h =
    subst says (sym h.1) (omega arith, cpu_says cpus h.0 (codes "c") [] cpu h.2)
spelled_says cpus collectors (step_reader cpu count) fields h =
    subst says (sym h.2) (omega arith, cpu_says cpus h.0 (codes "r") (h.1 ∷ []) cpu h.3)
spelled_says cpus collectors (take_page cpu) fields h =
    subst says (sym h.1) (omega arith, cpu_says cpus h.0 (codes "t") [] cpu h.2)
spelled_says cpus collectors (wish cpu) fields h =
    subst says (sym h.1) (omega arith, cpu_says cpus h.0 (codes "a") [] cpu h.2)
spelled_says cpus collectors (deliver collector cpu fill) fields h = subst says (sym h.3) (omega arith, refl)

-- ---- a text whose first line is of fields that spell a command
pub begins_with : (cpus collectors : ℕ) (text rest : List ℕ) (command : Command) (fields : List (List ℕ))
    → SpellsCommand cpus collectors command fields → text ≡ line_of fields ++ 10 ∷ rest
    → BeginsWith cpus collectors text rest command
begins_with cpus collectors text rest command fields spells are =
    let solid = spelled_solid cpus collectors command fields spells in
    let said = spelled_says cpus collectors command fields spells in
    let again = fields_again fields said.0 solid in
    record {
      line = line_of fields;
      lines =
          first_line text (line_of fields) rest
          (ap (slice_split (λ b. b == 10)) are
          ∙ slice_split_at (λ b. b == 10) (line_of fields) 10 rest (no_feed_in fields said.0 solid) refl);
      significant = said.1;
      spells =
          command_in_form cpus collectors (line_of fields) fields again (solid_spaced fields solid)
          ∙ spelled_command cpus collectors fields command spells;
      shorter = omega (arith, ap (λ (bs : List ℕ). length bs) are, length-append (line_of fields) (10 ∷ rest));
    }

-- a text whose first line spells what was asked
pub begins_asked : (cpus collectors : ℕ) (text rest bytes : List ℕ) (kind : Kind) (cpu value : ℕ) (order : Kept)
    (fields : List (List ℕ))
    → order ≡ record { kind = kind; cpu = cpu; above = 0; end = 0; value = value }
    → SpellsCommand cpus collectors (command_shown kind cpu value bytes) fields
    → text ≡ line_of fields ++ 10 ∷ rest
    → BeginsWith cpus collectors text rest (shown bytes order)
begins_asked cpus collectors text rest bytes kind cpu value order fields is spells are =
    subst (λ (o : Kept). BeginsWith cpus collectors text rest (shown bytes o)) (sym is)
    (begins_with cpus collectors text rest (command_shown kind cpu value bytes) fields spells are)

-- ---- the fields of a text, after the name of a CPU
pub count_read : (field : List ℕ) (n : ℕ) → decimal_in field ≡ Ok n → MIN_LINE_STEPS ≤ n → n ≤ MAX_LINE_STEPS
    → count_in field ≡ Ok n
unfolding count_in
count_read field n h low high =
    rw h (cond-true _ _ _ (and_from _ _ (le-leb MIN_LINE_STEPS n low) (le-leb n MAX_LINE_STEPS high)))

pub alone_joined : (x text rest : List ℕ) (word : ℕ) → text ≡ word ∷ 10 ∷ rest
    → x ++ 32 ∷ text ≡ line_of (x ∷ (word ∷ []) ∷ []) ++ 10 ∷ rest
alone_joined x text rest word is =
    ap (λ (bs : List ℕ). x ++ 32 ∷ bs) is ∙ sym (append_assoc x (32 ∷ word ∷ []) (10 ∷ rest))

pub steps_joined : (x k text rest : List ℕ) (word : ℕ) → text ≡ k ++ 10 ∷ rest
    → x ++ 32 ∷ word ∷ 32 ∷ text ≡ line_of (x ∷ (word ∷ []) ∷ k ∷ []) ++ 10 ∷ rest
steps_joined x k text rest word is =
    ap (λ (bs : List ℕ). x ++ 32 ∷ word ∷ 32 ∷ bs) is ∙ sym (append_assoc x (32 ∷ word ∷ 32 ∷ k) (10 ∷ rest))

pub record_joined : (x t hex text behind rest : List ℕ) (word : ℕ) → text ≡ t ++ 32 ∷ behind → behind ≡ hex ++ 10 ∷ rest
    → x ++ 32 ∷ word ∷ 32 ∷ text ≡ line_of (x ∷ (word ∷ []) ∷ t ∷ hex ∷ []) ++ 10 ∷ rest
record_joined x t hex text behind rest word is behind_is =
    ap (λ (bs : List ℕ). x ++ 32 ∷ word ∷ 32 ∷ bs)
    (is ∙ ap (λ (bs : List ℕ). t ++ 32 ∷ bs) behind_is ∙ sym (append_assoc t (32 ∷ hex) (10 ∷ rest)))
    ∙ sym (append_assoc x (32 ∷ word ∷ 32 ∷ (t ++ 32 ∷ hex)) (10 ∷ rest))

pub delivery_joined : (k x f text given named filled rest : List ℕ) → text ≡ 100 ∷ 32 ∷ given → given ≡ k ++ 32 ∷ named
    → named ≡ x ++ 32 ∷ filled → filled ≡ f ++ 10 ∷ rest
    → text ≡ line_of (codes "d" ∷ k ∷ x ∷ f ∷ []) ++ 10 ∷ rest
delivery_joined k x f text given named filled rest is given_is named_is filled_is =
    let behind : named ≡ (x ++ 32 ∷ f) ++ 10 ∷ rest =
    named_is ∙ ap (λ (bs : List ℕ). x ++ 32 ∷ bs) filled_is ∙ sym (append_assoc x (32 ∷ f) (10 ∷ rest)) in
    is
    ∙ ap (λ (bs : List ℕ). 100 ∷ 32 ∷ bs)
    (given_is ∙ ap (λ (bs : List ℕ). k ++ 32 ∷ bs) behind
    ∙ sym (append_assoc k (32 ∷ (x ++ 32 ∷ f)) (10 ∷ rest)))

-- ---- a line after the name of a CPU
pub steps_behind : (cpu : ℕ) (text front old : List ℕ) (o : Option UsualLine)
    → IfSome o
    (λ line.
    (cpus collectors : ℕ) → BeginsBehindCpu cpus collectors cpu front line.rest.now (shown [] line.order))
    → text ≡ front
    → MatchOption o (old ≡ old) (λ line. (cpus collectors : ℕ) → IsUsualBehindCpu cpus collectors cpu text old old line)
steps_behind cpu text front old None h is = refl
steps_behind cpu text front old (Some line) h is = λ cpus collectors. (
  [],
  sym (append-nil old),
  subst (λ (t : List ℕ). BeginsBehindCpu cpus collectors cpu t line.rest.now (shown [] line.order)) (sym is)
      (h cpus collectors),
)

pub record_behind : (cpu : ℕ) (text front old new : List ℕ) (o : Option UsualLine)
    → MatchOption o (new ≡ old)
    (λ line. (cpus collectors : ℕ) → IsUsualBehindCpu cpus collectors cpu front old new line) → text ≡ front
    → MatchOption o (new ≡ old) (λ line. (cpus collectors : ℕ) → IsUsualBehindCpu cpus collectors cpu text old new line)
record_behind cpu text front old new None h is = h
record_behind cpu text front old new (Some line) h is = λ cpus collectors.
    subst (λ (t : List ℕ). IsUsualBehindCpu cpus collectors cpu t old new line) (sym is) (h cpus collectors)

pub usual_of_cpu : (cpus collectors : ℕ) (text old new : List ℕ) (cpu : NumberCut) (o : Option UsualLine)
    → IsCpuCut cpus text cpu
    → MatchOption o (new ≡ old)
    (λ line. (cpus collectors : ℕ) → IsUsualBehindCpu cpus collectors cpu.number cpu.rest.now old new line)
    → MatchOption o (new ≡ old) (λ line. IsUsual cpus collectors text old new line)
usual_of_cpu cpus collectors text old new cpu None cut h = h
usual_of_cpu cpus collectors text old new cpu (Some line) cut h =
    let behind = h cpus collectors in (
      behind.0,
      behind.1,
      subst (λ (t : List ℕ). BeginsWith cpus collectors t line.rest.now (shown behind.0 line.order)) (sym cut.are)
          (behind.2 cut.field cut.spells),
    )

-- ---- a usual line is the next one
pub usual_next : (cpus collectors passed after : ℕ) (text rest old new : List ℕ) (line : UsualLine)
    → IsUsual cpus collectors text old new line → rest ≡ line.rest.now → after ≡ passed + 1
    → PutsNext cpus collectors (Ok (Some line.order)) old new (significant_lines_after passed text) after
    (significant_lines_after after rest)
usual_next cpus collectors passed after text rest old new line is behind next =
    let begins = is.2 in (
      begins.line,
      significant_turn passed after after text begins.line rest (significant_lines_after passed text)
          (begins.lines ∙ ap (λ (bs : List ℕ). begins.line ∷ lines_of bs) (sym behind)) (next, next) begins.significant
          refl,
      (is.0, is.1, ap (numbered_reading after) begins.spells),
    )
