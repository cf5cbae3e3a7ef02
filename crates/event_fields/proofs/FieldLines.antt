-- The lines of a format that are to describe fields, from the front.
use Rattle.std.proofs.Common.{◌≡◌, ℕ, ◌+◌, ◌++◌, Bool, not, true, false, cond, List, [], ◌∷◌, length, filter, refl}
use Rattle.std.proofs.Common.{ap, sym}
use Rattle.std.proofs.Common.{◌∙◌, Option, Some, None, MatchOption, Bor, subst}
use Rattle.std.specs.Prelude.{⊤, Result, Ok, Err}
use Rattle.std.specs.List.{take_while}
use Rattle.std.proofs.lemmas.Bool.{cond-true, cond-false}
use Rattle.std.proofs.lemmas.List.Sums.{take_while-cons}
use Rattle.event_fields.specs.Texts.{parts_of}
use Rattle.event_fields.specs.Fields.{PlacedLine, with_offsets, ends_fields, begins_field, field_lines_among}
use Rattle.event_fields.specs.Fields.{field_lines_at}
use Rattle.event_fields.specs.Fields.{field_lines_of, fields_after, ReadsOn, IsReading}
use Rattle.event_fields.specs.Lines.{EventField}
use Rattle.event_fields.specs.declared.fields.FormatError.{FormatError}
use Rattle.event_fields.specs.declared.fields.FormatError.TheVariants as errors

-- after the end there is none
pub ends : (at : ℕ) (text line : List ℕ) (lines : List (List ℕ)) → parts_of 10 text ≡ line ∷ lines
    → ends_fields line ≡ true → field_lines_at at text ≡ []
unfolding field_lines_at
ends at text line lines cut is =
    ap (λ ls. field_lines_among (with_offsets at ls)) cut
    ∙ ap (filter (λ (l : PlacedLine). begins_field l.1))
    (take_while-cons (λ (l : PlacedLine). not (ends_fields l.1)) (at, line) (with_offsets (at + length line + 1) lines)
    ∙ cond-false _ _ _ (ap not is))

-- one line of these lines
filter_one : (at : ℕ) (line : List ℕ) (lines : List PlacedLine) (r : Bool) → begins_field line ≡ r
    → cond r ((at, line) ∷ filter (λ l. begins_field l.1) lines) (filter (λ l. begins_field l.1) lines)
    ≡ cond r ((at, line) ∷ []) [] ++ filter (λ l. begins_field l.1) lines
filter_one at line lines true is = refl
filter_one at line lines false is = refl

among_one : (at : ℕ) (line : List ℕ) (lines : List PlacedLine) → ends_fields line ≡ false
    → field_lines_among ((at, line) ∷ lines) ≡ field_lines_of at line ++ field_lines_among lines
among_one at line lines is =
    ap (filter (λ (l : PlacedLine). begins_field l.1))
    (take_while-cons (λ (l : PlacedLine). not (ends_fields l.1)) (at, line) lines ∙ cond-true _ _ _ (ap not is))
    ∙ filter_one at line (take_while (λ (l : PlacedLine). not (ends_fields l.1)) lines) (begins_field line) refl

pub one_more : (at : ℕ) (text line rest : List ℕ) → parts_of 10 text ≡ line ∷ parts_of 10 rest
    → ends_fields line ≡ false
    → field_lines_at at text ≡ field_lines_of at line ++ field_lines_at (at + length line + 1) rest
unfolding field_lines_at
one_more at text line rest cut is =
    ap (λ ls. field_lines_among (with_offsets at ls)) cut
    ∙ among_one at line (with_offsets (at + length line + 1) (parts_of 10 rest)) is

pub last_one : (at : ℕ) (text line : List ℕ) → parts_of 10 text ≡ line ∷ [] → ends_fields line ≡ false
    → field_lines_at at text ≡ field_lines_of at line ++ []
unfolding field_lines_at
last_one at text line cut is = ap (λ ls. field_lines_among (with_offsets at ls)) cut ∙ among_one at line [] is

-- ---- one turn over the lines of a format
-- what `part_cut` says of a line and of what is after it
abbrev pub IsCut : List ℕ → List ℕ → Option (Bor (List ℕ)) → Type 0
IsCut text line rest = MatchOption rest (parts_of 10 text ≡ line ∷ [])
    (λ r. parts_of 10 text ≡ line ∷ parts_of 10 r.now)

pub ends_here : (at : ℕ) (text line : List ℕ) (rest : Option (Bor (List ℕ))) (fields : List EventField)
    (reading : Result (List EventField) ℕ) → IsCut text line rest → ends_fields line ≡ true
    → fields_after fields (field_lines_at at text) ≡ reading → reading ≡ Ok fields
ends_here at text line None fields reading cut is so_far =
    sym so_far ∙ ap (fields_after fields) (ends at text line [] cut is)
ends_here at text line (Some r) fields reading cut is so_far =
    sym so_far ∙ ap (fields_after fields) (ends at text line (parts_of 10 r.now) cut is)

fails_at : (at : ℕ) (text line : List ℕ) (fields : List EventField) (lines : List PlacedLine)
    (error : FormatError) (now : List EventField) (reading : Result (List EventField) ℕ)
    → field_lines_at at text ≡ field_lines_of at line ++ lines
    → ReadsOn (Err error) fields at line now → fields_after fields (field_lines_at at text) ≡ reading
    → IsReading (Err error) reading
fails_at at text line fields lines errors.NoMemory now reading is step so_far = tt
fails_at at text line fields lines (errors.Malformed place) now reading is step so_far =
    sym so_far ∙ ap (fields_after fields) is ∙ step lines

pub fails_here : (at : ℕ) (text line : List ℕ) (rest : Option (Bor (List ℕ))) (fields : List EventField)
    (error : FormatError) (now : List EventField) (reading : Result (List EventField) ℕ) → IsCut text line rest
    → ends_fields line ≡ false → ReadsOn (Err error) fields at line now
    → fields_after fields (field_lines_at at text) ≡ reading → IsReading (Err error) reading
fails_here at text line None fields error now reading cut is step so_far =
    fails_at at text line fields [] error now reading (last_one at text line cut is) step so_far
fails_here at text line (Some r) fields error now reading cut is step so_far =
    fails_at at text line fields _ error now reading (one_more at text line r.now cut is) step so_far

pub is_last : (at : ℕ) (text line : List ℕ) (fields now : List EventField) (reading : Result (List EventField) ℕ)
    → parts_of 10 text ≡ line ∷ [] → ends_fields line ≡ false → ReadsOn (Ok tt) fields at line now
    → fields_after fields (field_lines_at at text) ≡ reading → reading ≡ Ok now
is_last at text line fields now reading cut is step so_far =
    sym so_far ∙ ap (fields_after fields) (last_one at text line cut is) ∙ step []

pub goes_on : (at : ℕ) (text line rest : List ℕ) (fields now : List EventField) (reading : Result (List EventField) ℕ)
    → parts_of 10 text ≡ line ∷ parts_of 10 rest → ends_fields line ≡ false → ReadsOn (Ok tt) fields at line now
    → fields_after fields (field_lines_at at text) ≡ reading
    → fields_after now (field_lines_at (at + length line + 1) rest) ≡ reading
goes_on at text line rest fields now reading cut is step so_far =
    sym (step (field_lines_at (at + length line + 1) rest))
    ∙ sym (ap (fields_after fields) (one_more at text line rest cut is)) ∙ so_far

pub is_last_here : (at : ℕ) (text line : List ℕ) (rest : Option (Bor (List ℕ))) (fields now : List EventField)
    (reading : Result (List EventField) ℕ) → rest ≡ None → IsCut text line rest → ends_fields line ≡ false
    → ReadsOn (Ok tt) fields at line now → fields_after fields (field_lines_at at text) ≡ reading → reading ≡ Ok now
is_last_here at text line rest fields now reading none cut =
    is_last at text line fields now reading (subst (IsCut text line) none cut)

pub goes_on_here : (at next : ℕ) (text line : List ℕ) (rest : Option (Bor (List ℕ))) (r : Bor (List ℕ))
    (fields now : List EventField) (reading : Result (List EventField) ℕ) → rest ≡ Some r
    → next ≡ at + length line + 1 → IsCut text line rest → ends_fields line ≡ false
    → ReadsOn (Ok tt) fields at line now → fields_after fields (field_lines_at at text) ≡ reading
    → fields_after now (field_lines_at next r.now) ≡ reading
goes_on_here at next text line rest r fields now reading some after cut is step so_far =
    ap (λ (n : ℕ). fields_after now (field_lines_at n r.now)) after
    ∙ goes_on at text line r.now fields now reading (subst (IsCut text line) some cut) is step so_far

pub length_after : (rest : Option (Bor (List ℕ))) (r : Bor (List ℕ)) (length_of before : ℕ) → rest ≡ Some r
    → MatchOption rest ⊤ (λ left. length_of ≡ before + 1 + length left.now) → length_of ≡ before + 1 + length r.now
length_after rest r length_of before some len =
    subst (λ (o : Option (Bor (List ℕ))). MatchOption o ⊤ (λ left. length_of ≡ before + 1 + length left.now)) some len
