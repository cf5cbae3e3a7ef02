-- The parts of a text between separators, from the front.
use Rattle.std.proofs.Common.{◌≡◌, ℕ, ◌+◌, ◌-◌, ◌<◌, ◌≤◌, Bool, not, true, false, cond, ltb, List, [], ◌∷◌, length}
use Rattle.std.proofs.Common.{take, drop, Some, None, refl, sym, ◌∙◌, ap, inl, inr, arith}
use Rattle.std.specs.List.{position, position_or_len, slice_split, onto_first}
use Rattle.std.proofs.lemmas.Bool.{ltb-true, ltb-false, cases_Bool, cond-true, cond-false}
use Rattle.std.proofs.lemmas.List.{take_rest}
use Rattle.std.proofs.lemmas.List.Splits.{slice_split_first, slice_split-cons_no}

-- where the first separator is
place_found : (p : ℕ → Bool) (bytes : List ℕ) (place : ℕ) → Some place ≡ position p bytes
    → (position_or_len p bytes < length bytes) × (position_or_len p bytes ≡ place)
place_found p bytes place h =
    elim (cases_Bool (ltb (position_or_len p bytes) (length bytes))) [
      | inl there ↦ (
        ltb-true _ _ there,
        (let e = h ∙ cond-true _ (Some (position_or_len p bytes)) None there in cc),
      )
      | inr not_there ↦
          (let e = h ∙ cond-false _ (Some (position_or_len p bytes)) None not_there in absurd (cc))
    ]

place_missing : (p : ℕ → Bool) (bytes : List ℕ) → None ≡ position p bytes → length bytes ≤ position_or_len p bytes
place_missing p bytes h =
    elim (cases_Bool (ltb (position_or_len p bytes) (length bytes))) [
      | inl there ↦ (let e = h ∙ cond-true _ (Some (position_or_len p bytes)) None there in absurd (cc))
      | inr not_there ↦ ltb-false _ _ not_there
    ]

-- the first part, and the parts of the rest after it
pub parts_after : (p : ℕ → Bool) (bytes : List ℕ) (place : ℕ) → Some place ≡ position p bytes
    → slice_split p bytes
    ≡ take place bytes ∷ slice_split p (take (length bytes - (place + 1)) (drop (place + 1) bytes))
parts_after p bytes place h =
    let found = place_found p bytes place h in
    let rest : take (length bytes - (place + 1)) (drop (place + 1) bytes) ≡ drop (place + 1) bytes =
    take_rest bytes (place + 1) in
    slice_split_first p bytes 0 found.0
    ∙ ap (λ (n : ℕ). take n bytes ∷ slice_split p (drop (n + 1) bytes)) found.1
    ∙ ap (λ (bs : List ℕ). take place bytes ∷ slice_split p bs) (sym rest)

-- without a separator there is one part
no_separator_at : (p : ℕ → Bool) (b : ℕ) (bytes : List ℕ) (r : Bool) → p b ≡ r
    → (length bytes ≤ position_or_len p bytes → slice_split p bytes ≡ bytes ∷ [])
    → length (b ∷ bytes) ≤ cond (not r) (1 + position_or_len p bytes) 0 → slice_split p (b ∷ bytes) ≡ (b ∷ bytes) ∷ []
no_separator_at p b bytes true is again h = absurd (omega arith)
no_separator_at p b bytes false is again h = slice_split-cons_no p b bytes is ∙ ap (onto_first b) (again (omega arith))

no_separator : (p : ℕ → Bool) (bytes : List ℕ) → length bytes ≤ position_or_len p bytes
    → slice_split p bytes ≡ bytes ∷ []
no_separator p [] h = refl
no_separator p (b ∷ bytes) h = no_separator_at p b bytes (p b) refl (no_separator p bytes) h

pub one_part : (p : ℕ → Bool) (bytes : List ℕ) → None ≡ position p bytes → slice_split p bytes ≡ bytes ∷ []
one_part p bytes h = no_separator p bytes (place_missing p bytes h)
