-- The parts of a line that describes a field.
use Rattle.std.proofs.Common.{◌≡◌, ℕ, ◌+◌, ◌++◌, ◌==◌, Bool, true, false, ltb, List, ◌∷◌, length}
use Rattle.std.proofs.Common.{take, drop, Option, Some, None, refl, sym, ◌∙◌, ap, inl, inr}
use Rattle.std.specs.Prelude.{codes, bytes_eq, nat_eq}
use Rattle.std.specs.List.{starts_with, position, position_or_len}
use Rattle.std.specs.Option.{option_map}
use Rattle.std.proofs.lemmas.Bool.{ltb-true, cases_Bool, cond-true, cond-false, eqb-true}
use Rattle.std.proofs.lemmas.Bool.Decides.{Decides-eqb}
use Rattle.std.proofs.lemmas.Slice.Eq.{starts_is, bytes_eq-Decides}
use Rattle.std.proofs.lemmas.List.Sums.{split_at_first, passes_at_first}
use Rattle.std.proofs.lemmas.Option.{same_Some, none-some, option_and_then_some}
use Rattle.event_fields.specs.Texts.{after, cut_at, number32_in}
use Rattle.event_fields.specs.Declarations.{declaration_in}
use Rattle.event_fields.specs.Lines.{EventField, tab, number_after, sign_in, measures_in, field_of, field_in}
use Rattle.event_fields.specs.Laws.{part, sign_part, HasParts}

-- what a value that is made of another says of that one
map_some : {A B P : Type 0} (f : A → B) (o : Option A) (y : B) → option_map f o ≡ Some y
    → ((x : A) → o ≡ Some x → f x ≡ y → P) → P
map_some f None y h next = absurd (none-some y h)
map_some f (Some x) y h next = next x refl (same_Some _ _ h)

after_is : (front text rest : List ℕ) → after front text ≡ Some rest → text ≡ front ++ rest
unfolding after
after_is front text rest h =
    elim (cases_Bool (starts_with nat_eq text front)) [
      | inl there ↦
          (starts_is Decides-eqb text front _ refl).0 there
          ∙ ap (λ r. front ++ r) (same_Some _ _ (sym (cond-true _ (Some (drop (length front) text)) None there) ∙ h))
      | inr not_there ↦
          absurd (none-some rest (sym (cond-false _ (Some (drop (length front) text)) None not_there) ∙ h))
    ]

-- the place of a byte
placed_at : (byte : ℕ) (text : List ℕ) (at : ℕ) → position (λ b. b == byte) text ≡ Some at
    → text ≡ take at text ++ byte ∷ drop (at + 1) text
placed_at byte text at h =
    elim (cases_Bool (ltb (position_or_len (λ b. b == byte) text) (length text))) [
      | inl there ↦
          (let e : position_or_len (λ b. b == byte) text ≡ at =
          same_Some _ _ (sym (cond-true _ (Some (position_or_len (λ b. b == byte) text)) None there) ∙ h) in
          let below = ltb-true _ _ there in
          let is = eqb-true _ byte (passes_at_first (λ b. b == byte) text 0 below) in
          split_at_first (λ b. b == byte) text 0 below
          ∙ ap (λ b. take (position_or_len (λ b. b == byte) text) text
          ++ b ∷ drop (position_or_len (λ b. b == byte) text + 1) text) is
          ∙ ap (λ n. take n text ++ byte ∷ drop (n + 1) text) e)
      | inr not_there ↦
          absurd (none-some at (sym (cond-false _ (Some (position_or_len (λ b. b == byte) text)) None not_there) ∙ h))
    ]

cut_is : (byte : ℕ) (text : List ℕ) (parts : List ℕ × List ℕ) → cut_at byte text ≡ Some parts
    → text ≡ parts.0 ++ byte ∷ parts.1
unfolding cut_at
cut_is byte text parts h =
    map_some _ (position (λ b. b == byte) text) parts h (λ at found is.
    placed_at byte text at found ∙ ap (λ p. p.0 ++ byte ∷ p.1) is)

-- a number after a word
record HasNumber (word text : List ℕ) (number : ℕ × List ℕ) : Type 0 where
  digits : List ℕ
  parts : text ≡ part word digits number.1
  says : number32_in digits ≡ Some number.0

number_is : (word text : List ℕ) (number : ℕ × List ℕ) → number_after word text ≡ Some number
    → HasNumber word text number
unfolding number_after
number_is word text number h =
    option_and_then_some _ (after word text) number h (λ rest begins h'.
    option_and_then_some _ (cut_at 59 rest) number h' (λ parts cut h''.
    map_some _ (number32_in parts.0) number h'' (λ n says is. record {
      digits = parts.0;
      parts =
          after_is word text rest begins ∙ ap (λ r. word ++ r) (cut_is 59 rest parts cut)
          ∙ ap (λ (x : ℕ × List ℕ). part word parts.0 x.1) is;
      says = says ∙ ap (λ (x : ℕ × List ℕ). Some x.0) is;
    })))

sign_is : (text : List ℕ) (is_signed : Bool) → sign_in text ≡ Some is_signed → text ≡ sign_part is_signed
unfolding sign_in
sign_is text is_signed h =
    elim (cases_Bool (bytes_eq text (tab ∷ codes "signed:1;"))) [
      | inl there ↦
          (bytes_eq-Decides text (tab ∷ codes "signed:1;")).0 there
          ∙ ap sign_part (same_Some true is_signed (sym (cond-true _ (Some true) _ there) ∙ h))
      | inr other ↦ elim (cases_Bool (bytes_eq text (tab ∷ codes "signed:0;"))) [
        | inl there ↦
            (bytes_eq-Decides text (tab ∷ codes "signed:0;")).0 there
            ∙ ap sign_part (same_Some false is_signed
            (sym (cond-false _ (Some true) _ other ∙ cond-true _ (Some false) None there) ∙ h))
        | inr neither ↦
            absurd (none-some is_signed
            (sym (cond-false _ (Some true) _ other ∙ cond-false _ (Some false) None neither) ∙ h))
      ]
    ]

pub line_is : (line : List ℕ) (field : EventField) → field_in line ≡ Some field → HasParts line field
unfolding field_in measures_in
line_is line field h =
    option_and_then_some _ (after (tab ∷ codes "field:") line) field h (λ rest begins h1.
    option_and_then_some _ (cut_at 59 rest) field h1 (λ cut is_cut h2.
    option_and_then_some _ (declaration_in cut.0) field h2 (λ declared says_declared h3.
    option_and_then_some _ (measures_in cut.1) field h3 (λ measures read h4.
    option_and_then_some _ (number_after (tab ∷ codes "offset:") cut.1) measures read (λ offset read_offset h5.
    option_and_then_some _ (number_after (tab ∷ codes "size:") offset.1) measures h5 (λ size read_size h6.
    map_some _ (sign_in size.1) measures h6 (λ is_signed read_sign is.
    let first = number_is (tab ∷ codes "offset:") cut.1 offset read_offset in
    let second = number_is (tab ∷ codes "size:") offset.1 size read_size in
    record {
      declaration = cut.0;
      offset = first.digits;
      size = second.digits;
      is_signed = is_signed;
      parts =
          after_is (tab ∷ codes "field:") line rest begins
          ∙ ap (λ r. (tab ∷ codes "field:") ++ r) (cut_is 59 rest cut is_cut)
          ∙ ap (λ r. part (tab ∷ codes "field:") cut.0 r)
          (first.parts ∙ ap (λ r. part (tab ∷ codes "offset:") first.digits r)
          (second.parts ∙ ap (λ r. part (tab ∷ codes "size:") second.digits r)
          (sign_is size.1 is_signed read_sign)));
      declared = declared;
      says_declared = says_declared;
      at = offset.0;
      says_at = first.says;
      count = size.0;
      says_count = second.says;
      says_field = ap (field_of declared) is ∙ h4;
    })))))))
