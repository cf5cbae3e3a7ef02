-- The command of a line: its fields and its form.
use Rattle.std.proofs.Common.{◌≡◌, ◌≢◌, ◌==◌, ℕ, ◌+◌, ◌-◌, ◌<◌, ◌⊎◌, Bool, true, false, cond, ltb, leb, ◌&&◌, List, []}
use Rattle.std.proofs.Common.{◌∷◌, ◌++◌, length, take, drop, codes, Option, Some, None, Result, Ok, Err, refl, sym, ◌∙◌}
use Rattle.std.proofs.Common.{ap, subst, inl, inr, arith}
use Rattle.std.specs.Prelude.{⊤}
use Rattle.std.specs.Char.{is_digit, is_ascii_digit}
use Rattle.std.specs.List.{list_all, position, All, AllByRecursion}
use Rattle.std.specs.Str.{all_ascii_digits}
use Rattle.std.proofs.lemmas.Bool.{cond-true, cond-false, and_from, and_parts, or_cases, both_ways, cases_Bool, lt-ltb}
use Rattle.std.proofs.lemmas.Bool.{ltb-true, eqb-true, ne_eqb, false_from_ne_true}
use Rattle.std.proofs.lemmas.List.Elements.{All-from_recursion, All-cons, All-nil}
use Rattle.std.proofs.lemmas.List.Splits.{slice_split_none, length-slice_split}
use Rattle.std.proofs.lemmas.Slice.Eq.{bytes_eq-Decides}
use Rattle.text_model.specs.Text.{fields_of, is_well_spaced, is_decimal, is_hex}
use Rattle.text_model.specs.ScriptLines.{LineFault, bad_line, bad_number, bad_hex, out_of_range, decimal_in, payload_in}
use Rattle.text_model.specs.ScriptLines.{number_below, names_cpu, cpu_in}
use Rattle.text_model.specs.declared.script_limits.TheConstants.{MIN_LINE_STEPS, MAX_LINE_STEPS}
use Rattle.text_model.specs.Script.{Command, begin_frame, step_frame, finish_frame, write, close, step_reader}
use Rattle.text_model.specs.Script.{take_page, wish, deliver, count_in, command_of, command_in, SpellsCommand}
use Rattle.text_model.proofs.Readings.{bind_ok, ok_is_no_err, chosen}
use Rattle.text_model.proofs.CommandTable.{command_spelled}
use Rattle.trace_script.specs.declared.fault.LineFault as line
use Rattle.trace_script.specs.declared.fields.Fields.{Fields}
use Rattle.trace_script.specs.declared.fields.Fields.TheVariants.{One, Two, Three, More}
use Rattle.trace_script.specs.Kept.{Kept, shown}
use Rattle.trace_script.specs.ScriptFaults.{Fails}
use Rattle.trace_script.specs.ScriptFields.{fields_seen, AreFields, HasNoFifth}
use Rattle.trace_script.proofs.TextParts.{parts_behind, one_part}
use Rattle.trace_script.proofs.ValueLemmas.{decimal_parts}

-- ---- a field with a byte in it, and no space or line feed
pub record IsSolid (field : List ℕ) : Type 0 where
  pub some : 0 < length field
  pub solid : All (λ b. (b == 32) ≡ false) field
  pub no_feed : All (λ b. (b == 10) ≡ false) field

one_is_no : (c b : ℕ) → (b == c) ≡ false → All (λ b. (b == c) ≡ false) (b ∷ [])
one_is_no c b other = All-cons (λ b. (b == c) ≡ false) b [] other (All-nil (λ b. (b == c) ≡ false))

one_byte : (b : ℕ) → (b == 32) ≡ false → (b == 10) ≡ false → IsSolid (b ∷ [])
one_byte b no_space no_feed =
    record { some = omega arith; solid = one_is_no 32 b no_space; no_feed = one_is_no 10 b no_feed }

-- what passes a test that this byte doesn't is without it
pub all_solid : (c : ℕ) (p : ℕ → Bool) (text : List ℕ) → p c ≡ false → list_all p text ≡ true
    → All (λ b. (b == c) ≡ false) text
all_solid c p text other h = All-from_recursion (λ b. (b == c) ≡ false) text (each text h)
  where
    one : (b : ℕ) → p b ≡ true → (b == c) ≡ false
    one b is = false_from_ne_true (b == c) (λ same. both_ways (p b) (ap p (eqb-true b c same) ∙ other) is)

    each : (text : List ℕ) → list_all p text ≡ true → AllByRecursion (λ b. (b == c) ≡ false) text
    each [] h = tt
    each (b ∷ text) h = let parts = and_parts _ _ h in (one b parts.0, each text parts.1)

digits_are : (digits : List ℕ) → all_ascii_digits digits ≡ true → list_all is_ascii_digit digits ≡ true
digits_are [] h = refl
digits_are (b ∷ digits) h = let parts = and_parts _ _ h in and_from _ _ parts.0 (digits_are digits parts.1)

decimal_solid : (field : List ℕ) (n : ℕ) → decimal_in field ≡ Ok n → IsSolid field
unfolding decimal_in
decimal_solid field n h =
    chosen (is_decimal field) _ _ n (λ is _.
    let parts = decimal_parts field is in
    let digits = digits_are field parts.2 in
    record {
      some = parts.0;
      solid = all_solid 32 is_ascii_digit field refl digits;
      no_feed = all_solid 10 is_ascii_digit field refl digits;
    })
    (λ other. absurd (ok_is_no_err n bad_number (sym other))) h

below_solid : (limit : ℕ) (field : List ℕ) (n : ℕ) → number_below limit field ≡ Ok n → IsSolid field
unfolding number_below
below_solid limit field n h =
    let first = bind_ok (decimal_in field) (λ n. cond (ltb n limit) (Ok n) (Err out_of_range)) n h in
    decimal_solid field first.0 first.1

count_solid : (field : List ℕ) (n : ℕ) → count_in field ≡ Ok n → IsSolid field
unfolding count_in
count_solid field n h =
    let first =
    bind_ok (decimal_in field) (λ n. cond (leb MIN_LINE_STEPS n && leb n MAX_LINE_STEPS) (Ok n) (Err out_of_range))
    n h in
    decimal_solid field first.0 first.1

named_solid : (field : List ℕ) → names_cpu field ≡ true → IsSolid field
named_solid [] h = absurd (both_ways false refl h)
named_solid (letter ∷ digits) h =
    let a = and_parts _ _ h in
    let b = and_parts _ _ a.0 in
    let is : letter ≡ 99 = eqb-true letter 99 b.0 in
    record {
      some = omega arith;
      solid =
          All-cons (λ b. (b == 32) ≡ false) letter digits (ne_eqb letter 32 (λ same. omega arith))
          (all_solid 32 is_ascii_digit digits refl (digits_are digits a.1));
      no_feed =
          All-cons (λ b. (b == 10) ≡ false) letter digits (ne_eqb letter 10 (λ same. omega arith))
          (all_solid 10 is_ascii_digit digits refl (digits_are digits a.1));
    }

cpu_solid : (cpus : ℕ) (field : List ℕ) (cpu : ℕ) → cpu_in cpus field ≡ Ok cpu → IsSolid field
unfolding cpu_in
cpu_solid cpus field cpu h =
    chosen (names_cpu field) _ _ cpu (λ is _. named_solid field is)
    (λ other. absurd (ok_is_no_err cpu bad_line (sym other))) h

hex_solid : (field : List ℕ) → is_hex field ≡ true → IsSolid field
unfolding is_hex
hex_solid field h = elim (or_cases _ _ h) [
  | inl is ↦ let same : field ≡ 45 ∷ [] = (bytes_eq-Decides field (codes "-")).0 is in
      subst IsSolid (sym same) (one_byte 45 refl refl)
  | inr is ↦ let a = and_parts _ _ is in
      let b = and_parts _ _ a.0 in
      record {
        some = ltb-true _ _ b.0;
        solid = all_solid 32 (λ c. is_digit c 16) field refl a.1;
        no_feed = all_solid 10 (λ c. is_digit c 16) field refl a.1;
      }
]

payload_solid : (field payload : List ℕ) → payload_in field ≡ Ok payload → IsSolid field
unfolding payload_in
payload_solid field payload h =
    chosen (is_hex field) _ _ payload (λ is _. hex_solid field is)
    (λ other. absurd (ok_is_no_err payload bad_hex (sym other))) h

-- ---- the fields of a command
abbrev pub AreSolid : List (List ℕ) → Type 0
AreSolid [] = ⊤
AreSolid (field ∷ fields) = IsSolid field × AreSolid fields

pub spelled_solid : (cpus collectors : ℕ) (command : Command) (fields : List (List ℕ))
    → SpellsCommand cpus collectors command fields → AreSolid fields
spelled_solid cpus collectors (begin_frame cpu moment payload) fields h =
    subst AreSolid (sym h.3) (
      cpu_solid cpus h.0 cpu h.4,
      (one_byte 98 refl refl, (decimal_solid h.1 moment h.5, (payload_solid h.2 payload h.6, tt))),
    )
spelled_solid cpus collectors (step_frame cpu count) fields h =
    subst AreSolid (sym h.2) (cpu_solid cpus h.0 cpu h.3, (one_byte 115 refl refl, (count_solid h.1 count h.4, tt)))
spelled_solid cpus collectors (finish_frame cpu) fields h =
    subst AreSolid (sym h.1) (cpu_solid cpus h.0 cpu h.2, (one_byte 102 refl refl, tt))
spelled_solid cpus collectors (write cpu moment payload) fields h =
    subst AreSolid (sym h.3) (
      cpu_solid cpus h.0 cpu h.4,
      (one_byte 119 refl refl, (decimal_solid h.1 moment h.5, (payload_solid h.2 payload h.6, tt))),
    )
spelled_solid cpus collectors (close cpu) fields h =
    subst AreSolid (sym h.1) (cpu_solid cpus h.0 cpu h.2, (one_byte 99 refl refl, tt))
spelled_solid cpus collectors (step_reader cpu count) fields h =
    subst AreSolid (sym h.2) (cpu_solid cpus h.0 cpu h.3, (one_byte 114 refl refl, (count_solid h.1 count h.4, tt)))
spelled_solid cpus collectors (take_page cpu) fields h =
    subst AreSolid (sym h.1) (cpu_solid cpus h.0 cpu h.2, (one_byte 116 refl refl, tt))
spelled_solid cpus collectors (wish cpu) fields h =
    subst AreSolid (sym h.1) (cpu_solid cpus h.0 cpu h.2, (one_byte 97 refl refl, tt))
spelled_solid cpus collectors (deliver collector cpu fill) fields h =
    subst AreSolid (sym h.3) (
      one_byte 100 refl refl,
      (below_solid collectors h.0 collector h.4, (cpu_solid cpus h.1 cpu h.5, (decimal_solid h.2 fill h.6, tt))),
    )

pub solid_spaced : (fields : List (List ℕ)) → AreSolid fields → is_well_spaced fields ≡ true
solid_spaced [] h = refl
solid_spaced (field ∷ fields) h = and_from _ _ (lt-ltb 0 (length field) h.0.some) (solid_spaced fields h.1)

-- ---- the form of a line
pub command_in_form : (cpus collectors : ℕ) (text : List ℕ) (fields : List (List ℕ)) → fields_of text ≡ fields
    → is_well_spaced fields ≡ true → command_in cpus collectors text ≡ command_of cpus collectors fields
unfolding command_in
command_in_form cpus collectors text fields is spaced =
    cond-true (is_well_spaced (fields_of text)) _ _ (ap is_well_spaced is ∙ spaced) ∙ ap (command_of cpus collectors) is

pub no_fields : (cpus collectors : ℕ) → command_of cpus collectors [] ≡ Err bad_line
unfolding command_of
no_fields cpus collectors = refl

-- fields that spell a command are the line's, and the line is well spaced
stands : (cpus collectors : ℕ) (text : List ℕ) (fields : Fields) (command : Command) → AreFields fields (fields_of text)
    → AreSolid (fields_seen fields)
    → command_of cpus collectors (fields_seen fields) ≡ Ok command → command_in cpus collectors text ≡ Ok command
stands cpus collectors text One command are solid h =
    absurd (ok_is_no_err command bad_line (sym h ∙ no_fields cpus collectors))
stands cpus collectors text (Two a b) command are solid h =
    command_in_form cpus collectors text (a.now ∷ b.now ∷ []) are (solid_spaced (a.now ∷ b.now ∷ []) solid) ∙ h
stands cpus collectors text (Three a b d) command are solid h =
    command_in_form cpus collectors text (a.now ∷ b.now ∷ d.now ∷ []) are
    (solid_spaced (a.now ∷ b.now ∷ d.now ∷ []) solid) ∙ h
stands cpus collectors text (More a b d rest) command are solid h =
    let alone : fields_of rest.now ≡ rest.now ∷ [] = slice_split_none (λ b. b == 32) rest.now solid.1.1.1.0.solid in
    command_in_form cpus collectors text (a.now ∷ b.now ∷ d.now ∷ rest.now ∷ [])
    (are ∙ ap (λ (fs : List (List ℕ)). a.now ∷ b.now ∷ d.now ∷ fs) alone)
    (solid_spaced (a.now ∷ b.now ∷ d.now ∷ rest.now ∷ []) solid) ∙ h

pub order_stands : (cpus collectors : ℕ) (text : List ℕ) (fields : Fields) (order : Kept) (old new : List ℕ)
    → AreFields fields (fields_of text)
    → (payload : List ℕ) × (new ≡ old ++ payload)
    × (command_of cpus collectors (fields_seen fields) ≡ Ok (shown payload order))
    → (payload : List ℕ) × (new ≡ old ++ payload) × (command_in cpus collectors text ≡ Ok (shown payload order))
order_stands cpus collectors text fields order old new are puts =
    let command = shown puts.0 order in
    let solid =
    spelled_solid cpus collectors command (fields_seen fields)
    (command_spelled cpus collectors (fields_seen fields) command puts.2) in
    (puts.0, puts.1, stands cpus collectors text fields command are solid puts.2)

-- ---- a fault
-- one part is the whole
whole_part : (text : List ℕ) → length (fields_of text) ≡ 1 → fields_of text ≡ text ∷ []
whole_part text one = by_place (position (λ b. b == 32) text) refl
  where
    by_place : (o : Option ℕ) → o ≡ position (λ b. b == 32) text → fields_of text ≡ text ∷ []
    by_place None h = one_part (λ b. b == 32) text h
    by_place (Some at) h =
        let behind = take (length text - (at + 1)) (drop (at + 1) text) in
        let some = length-slice_split (λ b. b == 32) behind in
        let more = ap (λ (fs : List (List ℕ)). length fs) (parts_behind (λ b. b == 32) text at h) in
        absurd (omega (arith, some, more, one))

one_alone : (cpus collectors : ℕ) (fields : List (List ℕ)) → length fields ≡ 1
    → command_of cpus collectors fields ≡ command_of cpus collectors []
unfolding command_of
one_alone cpus collectors [] h = refl
one_alone cpus collectors (a ∷ []) h = refl
one_alone cpus collectors (a ∷ b ∷ fields) h = absurd (omega (arith, h))

-- fields at fault in a line of the right form
pub fault_stands : (cpus collectors : ℕ) (text : List ℕ) (fields : Fields) (fault : line.LineFault)
    → AreFields fields (fields_of text) → HasNoFifth fields → is_well_spaced (fields_of text) ≡ true
    → Fails fault (command_of cpus collectors (fields_seen fields)) → Fails fault (command_in cpus collectors text)
fault_stands cpus collectors text fields fault are whole spaced h =
    subst (λ (read : Result Command LineFault). Fails fault read)
    (sym (command_in_form cpus collectors text (fields_of text) refl spaced
    ∙ same_command cpus collectors fields (fields_of text) are whole)) h
  where
    same_command : (cpus collectors : ℕ) (fields : Fields) (all : List (List ℕ)) → AreFields fields all
        → HasNoFifth fields → command_of cpus collectors all ≡ command_of cpus collectors (fields_seen fields)
    same_command cpus collectors One all are whole = one_alone cpus collectors all are
    same_command cpus collectors (Two a b) all are whole = ap (command_of cpus collectors) are
    same_command cpus collectors (Three a b d) all are whole = ap (command_of cpus collectors) are
    same_command cpus collectors (More a b d rest) all are whole =
        ap (command_of cpus collectors)
        (are ∙ ap (λ (fs : List (List ℕ)). a.now ∷ b.now ∷ d.now ∷ fs) (whole_part rest.now whole))

badly_spaced : (cpus collectors : ℕ) (text : List ℕ) → is_well_spaced (fields_of text) ≡ false
    → command_in cpus collectors text ≡ Err bad_line
unfolding command_in
badly_spaced cpus collectors text h = cond-false (is_well_spaced (fields_of text)) _ _ h

too_many : (cpus collectors : ℕ) (a b d : List ℕ) (fields : List (List ℕ)) → 0 < length fields → length fields ≢ 1
    → command_of cpus collectors (a ∷ b ∷ d ∷ fields) ≡ Err bad_line
unfolding command_of
too_many cpus collectors a b d [] some more = absurd (omega (arith, some))
too_many cpus collectors a b d (e ∷ []) some more = absurd (more refl)
too_many cpus collectors a b d (e ∷ f ∷ fields) some more = refl

no_order : (cpus collectors : ℕ) (text : List ℕ) → command_of cpus collectors (fields_of text) ≡ Err bad_line
    → command_in cpus collectors text ≡ Err bad_line
no_order cpus collectors text h =
    elim (cases_Bool (is_well_spaced (fields_of text))) [
      | inl well ↦ command_in_form cpus collectors text (fields_of text) refl well ∙ h
      | inr badly ↦ badly_spaced cpus collectors text badly
    ]

not_whole : (cpus collectors : ℕ) (text : List ℕ) (fields : Fields) → AreFields fields (fields_of text)
    → (HasNoFifth fields → ⊥) → command_in cpus collectors text ≡ Err bad_line
not_whole cpus collectors text One are more = absurd (more tt)
not_whole cpus collectors text (Two a b) are more = absurd (more tt)
not_whole cpus collectors text (Three a b d) are more = absurd (more tt)
not_whole cpus collectors text (More a b d rest) are more =
    let some = length-slice_split (λ b. b == 32) rest.now in
    no_order cpus collectors text
    (ap (command_of cpus collectors) are
    ∙ too_many cpus collectors a.now b.now d.now (fields_of rest.now) (omega (arith, some)) more)

-- what is wrong with a line whose form is
pub no_command : (text : List ℕ) (fields : Fields) → AreFields fields (fields_of text)
    → (HasNoFifth fields → ⊥) ⊎ (is_well_spaced (fields_of text) ≡ false)
    → (cpus collectors : ℕ) → command_in cpus collectors text ≡ Err bad_line
no_command text fields are (inl more) cpus collectors = not_whole cpus collectors text fields are more
no_command text fields are (inr badly) cpus collectors = badly_spaced cpus collectors text badly
