-- The fields of a format aren't too many, and have different names.
use Rattle.std.proofs.Common.{◌≡◌, ◌≢◌, ℕ, ◌<◌, ◌≤◌, ◌++◌, false, List, [], ◌∷◌, length, get_or}
use Rattle.std.proofs.Common.{Option, Some, None, refl, sym, subst, ◌∙◌, inl, inr, arith, length-append}
use Rattle.std.specs.Prelude.{◌||◌, Result, Ok, bytes_eq, nat_le}
use Rattle.std.specs.List.{AllPairs, All}
use Rattle.std.proofs.lemmas.Bool.{cases_Bool, cond-true, cond-false, leb-false, true≢false, or_parts}
use Rattle.std.proofs.lemmas.Slice.Eq.{bytes_eq-Decides}
use Rattle.std.proofs.lemmas.List.Folds.{list_any_at}
use Rattle.std.proofs.lemmas.List.Quantifiers.{all_pairs_push}
use Rattle.std.proofs.lemmas.Option.{same_Some, none-some, option_and_then_some}
use Rattle.event_fields.specs.Lines.{EventField, field_in}
use Rattle.event_fields.specs.declared.fields.TheConstants.{MOST_FIELDS}
use Rattle.event_fields.specs.Fields.{PlacedLine, has_name, further, further_in, made_of, fields_after}
use Rattle.event_fields.specs.Fields.{field_lines_at, fields_of}

-- what holds of the fields so far
abbrev AreDistinct : List EventField → Type 0
AreDistinct fields = (length fields ≤ MOST_FIELDS) × AllPairs (λ a b. a.name ≢ b.name) fields

-- a name that no field has
no_field_has : (name : List ℕ) (fields : List EventField) → has_name name fields ≡ false
    → All (λ field. field.name ≢ name) fields
no_field_has name fields none k d below same =
    true≢false (sym (list_any_at (λ field. bytes_eq field.name name) fields k d below
    ((bytes_eq-Decides (get_or fields k d).name name).1 same)) ∙ none)

-- a field more
further_adds : (fields : List EventField) (field next : EventField) → further fields field ≡ Some next
    → AreDistinct fields → AreDistinct (fields ++ next ∷ [])
further_adds fields field next h distinct =
    elim (cases_Bool (nat_le MOST_FIELDS (length fields) || has_name field.name fields)) [
      | inl refused ↦ absurd (none-some next (sym (cond-true _ None (Some field) refused) ∙ h))
      | inr taken ↦
          (let parts = or_parts _ _ taken in
          let few : length fields < MOST_FIELDS = leb-false _ _ parts.0 in
          let is : field ≡ next = same_Some _ _ (sym (cond-false _ None (Some field) taken) ∙ h) in
          let others = no_field_has field.name fields parts.1 in
          subst (λ f. AreDistinct (fields ++ f ∷ [])) is (
            omega (arith, length-append fields (field ∷ [])),
            all_pairs_push (λ a b. a.name ≢ b.name) fields field distinct.1 others,
          ))
    ]

further_in_adds : (fields : List EventField) (line : List ℕ) (next : EventField) → further_in fields line ≡ Some next
    → AreDistinct fields → AreDistinct (fields ++ next ∷ [])
unfolding further_in
further_in_adds fields line next h distinct =
    option_and_then_some _ (field_in line) next h (λ field is h'. further_adds fields field next h' distinct)

made_is : {P : Type 0} (o : Option EventField) (at : ℕ) (make : EventField → Result (List EventField) ℕ)
    (fields : List EventField) → made_of o at make ≡ Ok fields
    → ((field : EventField) → o ≡ Some field → make field ≡ Ok fields → P) → P
made_is None at make fields h next = absurd (cc)
made_is (Some field) at make fields h next = next field refl h

same_fields : (a b : List EventField) → ◌≡◌ {A = Result (List EventField) ℕ} (Ok a) (Ok b) → a ≡ b
same_fields a b h = cc

names_of_lines : (lines : List PlacedLine) (known fields : List EventField) → AreDistinct known
    → fields_after known lines ≡ Ok fields → AreDistinct fields
names_of_lines [] known fields distinct h = subst AreDistinct (same_fields known fields h) distinct
names_of_lines (line ∷ lines) known fields distinct h =
    made_is (further_in known line.1) line.0 _ fields h (λ field is h'.
    names_of_lines lines (known ++ field ∷ []) fields (further_in_adds known line.1 field is distinct) h')

pub names_of_format : (format : List ℕ) (fields : List EventField) → fields_of format ≡ Ok fields → AreDistinct fields
unfolding fields_of
names_of_format format fields h =
    names_of_lines (field_lines_at 0 format) [] fields (omega arith, λ i j d before below. absurd (omega arith)) h
