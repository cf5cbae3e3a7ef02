-- The fields of a payload, one after the other.
use Rattle.std.proofs.Common.{◌≡◌, ℕ, ◌+◌, ◌<◌, Bool, true, false, not, List, [], ◌∷◌, ◌++◌, length, get_or, take, map}
use Rattle.std.proofs.Common.{refl, sym, ap, ◌∙◌, subst, inl, inr}
use Rattle.std.specs.Prelude.{flat_map, codes, ◌&&◌, ◌||◌}
use Rattle.std.proofs.lemmas.Bool.{cases_Bool}
use Rattle.command_io.specs.declared.ends.Sink.{Ghosts}
use Rattle.event_fields.specs.declared.field.Field.{Field}
use Rattle.event_fields.specs.Lines.{EventField, field_seen}
use Rattle.text_values.specs.declared.output.Out.{Out}
use Rattle.text_values.specs.Putting.{Puts}
use Rattle.text_values.proofs.Chains.{put_then, put_same}
use Rattle.capture_text.specs.Fields.{joined, continued, is_no_text, uncut_part, json_uncut, is_uncut, has_uncut}
use Rattle.capture_text.specs.Fields.{open_names, names_continued, fields_text, field_text, shown_text}
use Rattle.capture_text.specs.Beside.{NameSource}
use Rattle.event_fields.specs.Shown.{is_shown}
use Rattle.std.specs.List.{list_any}
use Rattle.std.specs.Prelude.{if◌then◌else◌}
use Rattle.std.proofs.Common.{ap₂}
use Rattle.capture_text.proofs.Commas.{joined_more, names_more, none_more, one_more, made_more}

or_false : (b : Bool) → (b || false) ≡ b
or_false true = refl
or_false false = refl

or_or : (a b c : Bool) → (a || (b || c)) ≡ ((a || b) || c)
or_or true b c = refl
or_or false b c = refl

any_more : {A : Type 0} (test : A → Bool) (done : List A) (one : A)
    → list_any test (done ++ one ∷ []) ≡ (list_any test done || test one)
any_more test [] one = or_false (test one)
any_more test (first ∷ done) one =
    ap (λ (b : Bool). test first || b) (any_more test done one) ∙ or_or (test first) (list_any test done) (test one)

module _ {W : Type 0} {g : Ghosts W} (fields : List Field) (index : ℕ) (default field : Field)
    (below : index < length fields) (is : field ≡ get_or fields index default) {start before after : Out W g} where
  -- the texts of one field more, with commas
  pub texts_more : (make : EventField → List (List ℕ)) (is_first is_first' : Bool)
      → Puts (joined (flat_map make (map field_seen (take index fields)))) start before
      × (is_first ≡ is_no_text (flat_map make (map field_seen (take index fields))))
      → Puts (continued is_first (make (field_seen field))) before after
      → is_first' ≡ (is_first && is_no_text (make (field_seen field)))
      → Puts (joined (flat_map make (map field_seen (take (index + 1) fields)))) start after
      × (is_first' ≡ is_no_text (flat_map make (map field_seen (take (index + 1) fields))))
  texts_more make is_first is_first' so_far put first =
      let made = flat_map make (map field_seen (take index fields)) in
      let next = make (field_seen field) in
      let more = made_more field_seen fields index default below make
      ∙ ap (λ (f : Field). made ++ make (field_seen f)) (sym is) in (
        put_same _ _ (sym (ap joined more ∙ joined_more made next))
            (put_then (joined made) (continued (is_no_text made) next) so_far.0
            (subst (λ (b : Bool). Puts (continued b next) before after) so_far.1 put)),
        first ∙ ap (λ (b : Bool). b && is_no_text next) so_far.1 ∙ sym (ap is_no_text more ∙ none_more made next),
      )

  -- one field more in a line of text
  pub fields_put : (source_of given : EventField → NameSource) (payload : List ℕ) (cut one_cut : Bool)
      → Puts (fields_text source_of payload (map field_seen (take index fields))) start before
      × (cut ≡ has_uncut payload (map field_seen (take index fields)))
      → given (field_seen field) ≡ source_of (field_seen field)
      → Puts (field_text given payload (field_seen field)) before after
      → one_cut ≡ is_uncut payload (field_seen field)
      → Puts (fields_text source_of payload (map field_seen (take (index + 1) fields))) start after
      × ((cut || one_cut) ≡ has_uncut payload (map field_seen (take (index + 1) fields)))
  fields_put source_of given payload cut one_cut so_far source_is put cut_is =
      let done = map field_seen (take index fields) in
      let here : field_seen (get_or fields index default) ≡ field_seen field = ap field_seen (sym is) in
      let same =
      ap (λ (s : NameSource). if is_shown (field_seen field) then shown_text s payload (field_seen field) else [])
      source_is in (
        put_same _ _
            (sym (made_more field_seen fields index default below (field_text source_of payload)
            ∙ ap (λ (f : EventField). fields_text source_of payload done ++ field_text source_of payload f) here))
            (put_then _ _ so_far.0 (put_same _ _ same put)),
        ap₂ (λ (a b : Bool). a || b) so_far.1 cut_is
            ∙ sym (ap (has_uncut payload) (one_more field_seen fields index default below)
            ∙ any_more (is_uncut payload) done (field_seen (get_or fields index default))
            ∙ ap (λ (f : EventField). has_uncut payload done || is_uncut payload f) here),
      )

  -- the names of one field more
  pub names_put : (make : EventField → List (List ℕ)) (next : List (List ℕ)) (is_first is_first' : Bool)
      → Puts (open_names (flat_map make (map field_seen (take index fields)))) start before
      × (is_first ≡ is_no_text (flat_map make (map field_seen (take index fields))))
      → next ≡ make (field_seen field)
      → Puts (names_continued is_first next) before after
      → is_first' ≡ (is_first && is_no_text next)
      → Puts (open_names (flat_map make (map field_seen (take (index + 1) fields)))) start after
      × (is_first' ≡ is_no_text (flat_map make (map field_seen (take (index + 1) fields))))
  names_put make next is_first is_first' so_far next_is put first =
      let made = flat_map make (map field_seen (take index fields)) in
      let more = made_more field_seen fields index default below make
      ∙ ap (λ (f : Field). made ++ make (field_seen f)) (sym is)
      ∙ ap (λ (l : List (List ℕ)). made ++ l) (sym next_is) in (
        put_same _ _ (sym (ap open_names more ∙ names_more made next))
            (put_then (open_names made) (names_continued (is_no_text made) next) so_far.0
            (subst (λ (b : Bool). Puts (names_continued b next) before after) so_far.1 put)),
        first ∙ ap (λ (b : Bool). b && is_no_text next) so_far.1 ∙ sym (ap is_no_text more ∙ none_more made next),
      )

-- ---- the names of the fields that have no value

one_name : (payload : List ℕ) (field : EventField)
    → is_no_text (json_uncut payload field) ≡ not (is_uncut payload field)
one_name payload field = elim (cases_Bool (is_uncut payload field)) [
  | inl is ↦ rw is refl
  | inr isn't ↦ rw isn't refl
]

neither : (a b : Bool) → (not a && not b) ≡ not (a || b)
neither true b = refl
neither false b = refl

names_there : (payload : List ℕ) (fields : List EventField)
    → is_no_text (flat_map (json_uncut payload) fields) ≡ not (has_uncut payload fields)
names_there payload [] = refl
names_there payload (field ∷ fields) =
    none_more (json_uncut payload field) (flat_map (json_uncut payload) fields)
    ∙ ap (λ (b : Bool). b && is_no_text (flat_map (json_uncut payload) fields)) (one_name payload field)
    ∙ ap (λ (b : Bool). not (is_uncut payload field) && b) (names_there payload fields)
    ∙ neither (is_uncut payload field) (has_uncut payload fields)

some_part : (names : List (List ℕ)) → is_no_text names ≡ false
    → uncut_part names ≡ codes ",\"uncut\":[" ++ joined names ++ codes "]"
some_part [] h = absurd (cc)
some_part (name ∷ names) h = refl

no_part : (names : List (List ℕ)) → is_no_text names ≡ true → uncut_part names ≡ []
no_part [] h = refl
no_part (name ∷ names) h = absurd (cc)

pub uncut_told : (payload : List ℕ) (fields : List EventField) → has_uncut payload fields ≡ true
    → uncut_part (flat_map (json_uncut payload) fields)
    ≡ codes ",\"uncut\":[" ++ joined (flat_map (json_uncut payload) fields) ++ codes "]"
uncut_told payload fields has =
    some_part (flat_map (json_uncut payload) fields) (names_there payload fields ∙ ap not has)

pub none_told : (payload : List ℕ) (fields : List EventField) → has_uncut payload fields ≡ false
    → uncut_part (flat_map (json_uncut payload) fields) ≡ []
none_told payload fields has =
    no_part (flat_map (json_uncut payload) fields) (names_there payload fields ∙ ap not has)
