-- The parts of a text round a separator, and the lines of a text, from the front.
use Rattle.std.proofs.Common.{◌≡◌, ℕ, ◌+◌, ◌-◌, ◌<◌, ◌≤◌, Bool, not, true, false, cond, ltb, ◌==◌, filter, List, []}
use Rattle.std.proofs.Common.{◌∷◌, length, take, drop, Option, Some, None, MatchOption, Bor, refl, sym, ◌∙◌, ap, inl}
use Rattle.std.proofs.Common.{inr, arith}
use Rattle.std.specs.Prelude.{⊤, unwrap_or}
use Rattle.std.specs.List.{position, position_or_len, slice_split, onto_first, enumerate_from}
use Rattle.std.proofs.lemmas.Bool.{ltb-true, ltb-false, lt-ltb, cases_Bool, cond-true, cond-false, false_from_ne_true}
use Rattle.std.proofs.lemmas.Bool.{ne_eqb}
use Rattle.std.proofs.lemmas.List.{take_rest}
use Rattle.std.proofs.lemmas.List.Sums.{position_or_len_is}
use Rattle.std.proofs.lemmas.List.Splits.{slice_split_first, slice_split-cons_yes, slice_split-cons_no}
use Rattle.memchr.specs.Find.{IsFirstByte, is_byte}
use Rattle.text_model.specs.Text.{lines_of, without_empty_end}
use Rattle.text_model.specs.ScriptLines.{NumberedLine, is_significant}
use Rattle.text_model.specs.HeaderReading.{significant_lines_after, end_line_after}

same_some : (m n : ℕ) → Some m ≡ Some n → m ≡ n
same_some m n h = cc

none_is_no_some : (n : ℕ) → None ≡ Some n → ⊥
none_is_no_some n h = absurd (cc)

-- where the first separator is
place_found : (p : ℕ → Bool) (bytes : List ℕ) (place : ℕ) → Some place ≡ position p bytes
    → (position_or_len p bytes < length bytes) × (position_or_len p bytes ≡ place)
place_found p bytes place h =
    elim (cases_Bool (ltb (position_or_len p bytes) (length bytes))) [
      | inl there ↦ (
        ltb-true _ _ there,
        sym (same_some place (position_or_len p bytes)
            (h ∙ cond-true _ (Some (position_or_len p bytes)) None there)),
      )
      | inr not_there ↦ absurd
          (none_is_no_some place (sym (h ∙ cond-false _ (Some (position_or_len p bytes)) None not_there)))
    ]

place_missing : (p : ℕ → Bool) (bytes : List ℕ) → None ≡ position p bytes → length bytes ≤ position_or_len p bytes
place_missing p bytes h =
    elim (cases_Bool (ltb (position_or_len p bytes) (length bytes))) [
      | inl there ↦ absurd
          (none_is_no_some (position_or_len p bytes) (h ∙ cond-true _ (Some (position_or_len p bytes)) None there))
      | inr not_there ↦ ltb-false _ _ not_there
    ]

-- the first part, and the parts of the rest after it
pub parts_behind : (p : ℕ → Bool) (bytes : List ℕ) (place : ℕ) → Some place ≡ position p bytes
    → slice_split p bytes
    ≡ take place bytes ∷ slice_split p (take (length bytes - (place + 1)) (drop (place + 1) bytes))
parts_behind p bytes place h =
    let found = place_found p bytes place h in
    let rest : take (length bytes - (place + 1)) (drop (place + 1) bytes) ≡ drop (place + 1) bytes =
    take_rest bytes (place + 1) in
    slice_split_first p bytes 0 found.0
    ∙ ap (λ (n : ℕ). take n bytes ∷ slice_split p (drop (n + 1) bytes)) found.1
    ∙ ap (λ (bs : List ℕ). take place bytes ∷ slice_split p bs) (sym rest)

-- without a separator there is one part
no_separator_at : (p : ℕ → Bool) (b : ℕ) (bytes : List ℕ) (r : Bool) → p b ≡ r
    → (length bytes ≤ position_or_len p bytes → slice_split p bytes ≡ bytes ∷ [])
    → length (b ∷ bytes) ≤ cond (not r) (1 + position_or_len p bytes) 0 → slice_split p (b ∷ bytes) ≡ (b ∷ bytes) ∷ []
no_separator_at p b bytes true is again h = absurd (omega arith)
no_separator_at p b bytes false is again h = slice_split-cons_no p b bytes is ∙ ap (onto_first b) (again (omega arith))

no_separator : (p : ℕ → Bool) (bytes : List ℕ) → length bytes ≤ position_or_len p bytes
    → slice_split p bytes ≡ bytes ∷ []
no_separator p [] h = refl
no_separator p (b ∷ bytes) h = no_separator_at p b bytes (p b) refl (no_separator p bytes) h

pub one_part : (p : ℕ → Bool) (bytes : List ℕ) → None ≡ position p bytes → slice_split p bytes ≡ bytes ∷ []
one_part p bytes h = no_separator p bytes (place_missing p bytes h)

-- what memchr finds is the first place
pub first_place : (byte : ℕ) (hay : List ℕ) (r : Option ℕ) → IsFirstByte (is_byte byte) hay r
    → r ≡ position (λ b. b == byte) hay
first_place byte hay None h =
    let at =
    position_or_len_is (λ b. b == byte) hay (length hay) 0 (omega arith)
    (λ k l. false_from_ne_true _ (h k (omega arith) l)) (λ l. absurd (omega (arith, l))) in
    let past : ltb (position_or_len (λ b. b == byte) hay) (length hay) ≡ false =
    false_from_ne_true _ (λ yes. let l = ltb-true _ _ yes in absurd (omega arith)) in
    sym (cond-false _ (Some (position_or_len (λ b. b == byte) hay)) None past)
first_place byte hay (Some k) h =
    let high = h.0.high in
    let at =
    position_or_len_is (λ b. b == byte) hay k 0 (omega arith)
    (λ j l. false_from_ne_true _ (h.0.before j (omega arith) l)) (λ l. h.1) in
    let there : ltb (position_or_len (λ b. b == byte) hay) (length hay) ≡ true = lt-ltb _ _ (omega arith) in
    sym (cond-true _ (Some (position_or_len (λ b. b == byte) hay)) None there ∙ ap (λ (n : ℕ). Some n) at)

-- ---- lines
-- a text has a first part
some_part : (p : ℕ → Bool) (bytes : List ℕ)
    → (part : List ℕ) × (parts : List (List ℕ)) × (slice_split p bytes ≡ part ∷ parts)
some_part p [] = ([], [], refl)
some_part p (b ∷ bytes) =
    let rest = some_part p bytes in
    elim (cases_Bool (p b)) [
      | inl there ↦ ([], slice_split p bytes, slice_split-cons_yes p b bytes there)
      | inr not_there ↦ (b ∷ rest.0, rest.1, slice_split-cons_no p b bytes not_there ∙ ap (onto_first b) rest.2)
    ]

pub first_line : (text line rest : List ℕ) → slice_split (λ b. b == 10) text ≡ line ∷ slice_split (λ b. b == 10) rest
    → lines_of text ≡ line ∷ lines_of rest
first_line text line rest h =
    let next = some_part (λ b. b == 10) rest in
    ap without_empty_end h
    ∙ ap (λ (parts : List (List ℕ)). without_empty_end (line ∷ parts)) next.2
    ∙ ap (λ (parts : List (List ℕ)). line ∷ without_empty_end parts) (sym next.2)

last_line_at : (b : ℕ) (text : List ℕ) → without_empty_end ((b ∷ text) ∷ []) ≡ (b ∷ text) ∷ []
last_line_at b text = cond-false (length (b ∷ text) == 0) _ _ (ne_eqb (length (b ∷ text)) 0 (omega arith))

-- the last line, if no line feed ends it
last_line : (text : List ℕ) → 0 < length text → slice_split (λ b. b == 10) text ≡ text ∷ [] → lines_of text ≡ text ∷ []
last_line [] some h = absurd (omega arith)
last_line (b ∷ text) some h = ap without_empty_end h ∙ last_line_at b text

not_empty : (text : List ℕ) → (length text == 0) ≡ false → 0 < length text
not_empty [] some = cc
not_empty (b ∷ text) some = omega arith

-- what line_cut states of the next line and of the rest after it
pub next_line : (text line : List ℕ) (o : Option (Bor (List ℕ))) (r none : Bor (List ℕ)) → r ≡ unwrap_or o none
    → none.now ≡ [] → (length text == 0) ≡ false
    → MatchOption o (slice_split (λ b. b == 10) text ≡ line ∷ [])
    (λ rest. slice_split (λ b. b == 10) text ≡ line ∷ slice_split (λ b. b == 10) rest.now)
    → MatchOption o (line ≡ text) (λ rest. ⊤)
    → lines_of text ≡ line ∷ lines_of r.now
next_line text line (Some rest) r none is empty some parts whole =
    first_line text line rest.now parts ∙ ap (λ (b : Bor (List ℕ)). line ∷ lines_of b.now) (sym is)
next_line text line None r none is empty some parts whole =
    last_line text (not_empty text some) (parts ∙ ap (λ (l : List ℕ). l ∷ []) whole)
    ∙ ap (λ (l : List ℕ). l ∷ []) (sym whole)
    ∙ ap (λ (l : List ℕ). line ∷ lines_of l) (sym empty)
    ∙ ap (λ (b : Bor (List ℕ)). line ∷ lines_of b.now) (sym is)

-- ---- significant lines, numbered
significant_line : (passed : ℕ) (text line rest : List ℕ) → lines_of text ≡ line ∷ lines_of rest
    → is_significant line ≡ true
    → significant_lines_after passed text ≡ (passed + 1, line) ∷ significant_lines_after (passed + 1) rest
unfolding significant_lines_after
significant_line passed text line rest h says =
    ap
    (λ (lines : List (List ℕ)).
    filter (λ (x : NumberedLine). is_significant x.1) (enumerate_from (passed + 1) lines)) h
    ∙ cond-true (is_significant line) _ _ says

skipped_line : (passed : ℕ) (text line rest : List ℕ) → lines_of text ≡ line ∷ lines_of rest
    → is_significant line ≡ false
    → significant_lines_after passed text ≡ significant_lines_after (passed + 1) rest
unfolding significant_lines_after
skipped_line passed text line rest h silent =
    ap
    (λ (lines : List (List ℕ)).
    filter (λ (x : NumberedLine). is_significant x.1) (enumerate_from (passed + 1) lines)) h
    ∙ cond-false (is_significant line) _ _ silent

pub no_significant_lines : (passed : ℕ) (text : List ℕ) → lines_of text ≡ [] → significant_lines_after passed text ≡ []
unfolding significant_lines_after
no_significant_lines passed text h =
    ap
    (λ (lines : List (List ℕ)).
    filter (λ (x : NumberedLine). is_significant x.1) (enumerate_from (passed + 1) lines)) h

-- the end stays where it is from line to line
end_line_after_line : (passed : ℕ) (text line rest : List ℕ) → lines_of text ≡ line ∷ lines_of rest
    → end_line_after passed text ≡ end_line_after (passed + 1) rest
unfolding end_line_after
end_line_after_line passed text line rest h = omega (arith, ap (λ (lines : List (List ℕ)). length lines) h)

end_line_after_all : (passed : ℕ) (text : List ℕ) → lines_of text ≡ [] → end_line_after passed text ≡ passed + 1
unfolding end_line_after
end_line_after_all passed text h = omega (arith, ap (λ (lines : List (List ℕ)). length lines) h)

-- ---- one turn over the lines, in the code's words
-- how many lines are passed after one more, and that line's number
abbrev IsNext : ℕ → ℕ → ℕ → Type 0
IsNext passed number after = (number ≡ passed + 1) × (after ≡ passed + 1)

pub significant_turn : (passed number after : ℕ) (text line rest : List ℕ) (all : List NumberedLine)
    → lines_of text ≡ line ∷ lines_of rest → IsNext passed number after
    → is_significant line ≡ true → significant_lines_after passed text ≡ all
    → all ≡ (number, line) ∷ significant_lines_after after rest
significant_turn passed number after text line rest all cut next says left =
    sym left ∙ significant_line passed text line rest cut says
    ∙ ap (λ (n : ℕ). (n, line) ∷ significant_lines_after (passed + 1) rest) (sym next.0)
    ∙ ap (λ (n : ℕ). (number, line) ∷ significant_lines_after n rest) (sym next.1)

pub skipped_turn : (passed number after : ℕ) (text line rest : List ℕ) (all : List NumberedLine)
    → lines_of text ≡ line ∷ lines_of rest → IsNext passed number after
    → is_significant line ≡ false → significant_lines_after passed text ≡ all → significant_lines_after after rest ≡ all
skipped_turn passed number after text line rest all cut next silent left =
    ap (λ (n : ℕ). significant_lines_after n rest) next.1 ∙ sym (skipped_line passed text line rest cut silent) ∙ left

pub end_turn : (passed number after : ℕ) (text line rest : List ℕ) (end : ℕ) → lines_of text ≡ line ∷ lines_of rest
    → IsNext passed number after
    → end_line_after passed text ≡ end → end_line_after after rest ≡ end
end_turn passed number after text line rest end cut next same =
    ap (λ (n : ℕ). end_line_after n rest) next.1 ∙ sym (end_line_after_line passed text line rest cut) ∙ same

pub last_turn : (passed after : ℕ) (text rest : List ℕ) → lines_of text ≡ [] → (after ≡ passed) × (rest ≡ text)
    → end_line_after after rest ≡ after + 1
last_turn passed after text rest none same =
    ap (λ (r : List ℕ). end_line_after after r) same.1
    ∙ ap (λ (n : ℕ). end_line_after n text) same.0
    ∙ end_line_after_all passed text none
    ∙ ap (λ (n : ℕ). n + 1) (sym same.0)
