-- The tables of the fields of events.
use Rattle.std.proofs.Common.{◌≡◌, ℕ, zero, suc, ◌+◌, ◌<◌, ◌≤◌, Bool, true, false, List, [], ◌∷◌, ◌++◌, length, map}
use Rattle.std.proofs.Common.{inl, inr, Option, Some, None, refl, sym, ap, subst, ◌∙◌, arith}
use Rattle.std.specs.Prelude.{if◌then◌else◌, slice_index_or, Ok}
use Rattle.std.specs.List.{slice_get}
use Rattle.std.proofs.lemmas.Bool.{cases_lt}
use Rattle.std.proofs.lemmas.Option.{same_Some, none-some}
use Rattle.trace_dat.specs.kernel_texts.Names.{Event}
use Rattle.event_fields.specs.Events.{Listed}
use Rattle.event_fields.specs.Fields.{fields_of}
use Rattle.event_fields.specs.Lines.{EventField}
use Rattle.kernel_names.specs.FieldTables.{Table, table_in_text, table_of}
use Rattle.kernel_names.specs.EventTables.{AreTablesOf, AreTablesOfEvent, if_number, table_by, table_for}

-- these calls give each name the table that the format gives it
abbrev pub HaveTables : (calls format : List ℕ) → Type 0
HaveTables calls format = (name : List ℕ) → table_in_text name calls ≡ table_of name format

at_place : (calls format : List ℕ) (fields : List EventField) (place : ℕ) (field : EventField)
    → HaveTables calls format → slice_get fields place ≡ Some field
    → slice_index_or (map (table_by calls) fields) place None ≡ table_for format field
at_place calls format [] place field same at = absurd (none-some field at)
at_place calls format (one ∷ fields) zero field same at =
    ap (if_number one) (same one.name) ∙ ap (table_for format) (same_Some one field at)
at_place calls format (one ∷ fields) (suc place) field same at = at_place calls format fields place field same at

-- the tables by the calls are those by the format
pub all_tables : (calls format : List ℕ) (fields : List EventField) (tables : List (Option Table))
    → HaveTables calls format → tables ≡ map (table_by calls) fields → AreTablesOf tables format fields
all_tables calls format fields tables same are place field at =
    ap (λ ts. slice_index_or ts place None) are ∙ at_place calls format fields place field same at

no_table : (b : Bool) (table : Option Table) → table ≡ None → (if b then table else None) ≡ None
no_table true table is = is
no_table false table is = refl

pub nothing : (text : List ℕ) → length text ≡ 0 → text ≡ []
nothing [] is = refl
nothing (b ∷ text) is = absurd (omega (arith, is))

-- without a call there is none
pub no_tables : (calls format : List ℕ) (fields : List EventField) (tables : List (Option Table))
    → HaveTables calls format → calls ≡ [] → tables ≡ [] → AreTablesOf tables format fields
no_tables calls format fields tables same none are place field at =
    ap (λ ts. slice_index_or ts place None) are
    ∙ sym (no_table _ (table_in_text field.name calls) (ap (table_in_text field.name) none))
    ∙ ap (if_number field) (same field.name)

-- ---- a list of lists

module _ {X : Type 0} where
  pub past_end : (lists : List X) (id : ℕ) → length lists ≤ id → slice_get lists id ≡ None
  past_end [] id past = refl
  past_end (one ∷ lists) zero past = absurd (omega (arith, past))
  past_end (one ∷ lists) (suc id) past = past_end lists id (omega (arith, past))

  pub last_is : (lists : List X) (last : X) (id : ℕ) → length lists ≡ id → slice_get (lists ++ last ∷ []) id ≡ Some last
  last_is [] last zero is = refl
  last_is [] last (suc id) is = absurd (omega (arith, is))
  last_is (one ∷ lists) last zero is = absurd (omega (arith, is))
  last_is (one ∷ lists) last (suc id) is = last_is lists last id (omega (arith, is))

  pub before_last : (lists : List X) (last : X) (n : ℕ) → n < length lists
      → slice_get (lists ++ last ∷ []) n ≡ slice_get lists n
  before_last [] last n below = absurd (omega (arith, below))
  before_last (one ∷ lists) last zero below = refl
  before_last (one ∷ lists) last (suc n) below = before_last lists last n (omega (arith, below))

-- ---- one event more

-- of each event of a number below this one are known the tables of its fields
abbrev pub AreTablesBelow : (known : ℕ → List (Option Table)) → (event_by : ℕ → Option Event) → ℕ → Type 0
AreTablesBelow known event_by end = (n : ℕ) (event : Event) (fields : List EventField) → n < end
    → event_by n ≡ Some event → fields_of event.format ≡ Ok fields → AreTablesOf (known n) event.format fields

-- those of an event, if its fields are known
event_has : (tables : List (Option Table)) (found event : Event) (list : Option Listed) (fields : List EventField)
    → list ≡ Some (fields_of found.format) → found ≡ event → fields_of event.format ≡ Ok fields
    → AreTablesOfEvent tables found list → AreTablesOf tables event.format fields
event_has tables found event list fields list_is same fields_are has =
    subst (λ (e : Event). AreTablesOf tables e.format fields) same
    (subst (AreTablesOfEvent tables found) (list_is ∙ ap (λ (e : Event). Some (fields_of e.format)) same
    ∙ ap (λ l. Some l) fields_are) has)

-- the next event is that of the number `id`, and its tables are put
pub one_more : (event_by : ℕ → Option Event) (old new : ℕ → List (Option Table)) (from id next : ℕ) (found : Event)
    (list : Option Listed) → AreTablesBelow old event_by from → from ≤ id
    → ((n : ℕ) → n < id → new n ≡ old n) → ((n : ℕ) → from ≤ n → n < id → event_by n ≡ None)
    → event_by id ≡ Some found → list ≡ Some (fields_of found.format) → AreTablesOfEvent (new id) found list
    → next ≡ id + 1 → AreTablesBelow new event_by next
one_more event_by old new from id next found list before above kept between there list_is has follows n event fields
    below is known =
    elim (cases_lt n from) [
      | inl first ↦
          subst (λ ts. AreTablesOf ts event.format fields) (sym (kept n (omega (arith, first, above))))
          (before n event fields first is known)
      | inr later ↦ elim (cases_lt n id) [
        | inl skipped ↦ absurd (none-some event (sym (between n (omega (arith, later)) skipped) ∙ is))
        | inr last ↦
            (let here : n ≡ id = omega (arith, below, last, follows) in
            let same : found ≡ event = same_Some found event (sym there ∙ ap event_by (sym here) ∙ is) in
            subst (λ m. AreTablesOf (new m) event.format fields) (sym here)
            (event_has (new id) found event list fields list_is same known has))
      ]
    ]
