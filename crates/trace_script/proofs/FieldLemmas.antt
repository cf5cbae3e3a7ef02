-- The fields of a line, from the front.
use Rattle.std.proofs.Common.{◌≡◌, ◌==◌, ℕ, Bool, true, false, List, [], ◌∷◌, length, Option, Some, None, MatchOption}
use Rattle.std.proofs.Common.{Bor, is_some, not, refl, ap, arith}
use Rattle.std.specs.List.{slice_split}
use Rattle.std.proofs.lemmas.Bool.{both_ways}
use Rattle.std.proofs.lemmas.List.Splits.{length-slice_split}
use Rattle.text_model.specs.Text.{fields_of}

-- a field, and whether another one follows it
abbrev pub IsCut : List ℕ → List ℕ → Option (Bor (List ℕ)) → Type 0
IsCut line field o =
    MatchOption o (slice_split (λ b. b == 32) line ≡ field ∷ [])
    (λ rest. slice_split (λ b. b == 32) line ≡ field ∷ slice_split (λ b. b == 32) rest.now)

pub one_field : (line field : List ℕ) → fields_of line ≡ field ∷ [] → length (fields_of line) ≡ 1
one_field line field h = ap (λ (fs : List (List ℕ)). length fs) h

-- a line without a space after its first field is one field, and one with a space is more
pub whole_rest : (line field : List ℕ) (o : Option (Bor (List ℕ))) (r : Bool) → IsCut line field o → is_some o ≡ not r
    → (r ≡ true → length (fields_of line) ≡ 1) × (length (fields_of line) ≡ 1 → r ≡ true)
whole_rest line field None true h is = (λ _. one_field line field h, λ one. refl)
whole_rest line field None false h is = absurd (both_ways false refl is)
whole_rest line field (Some rest) true h is = absurd (both_ways true is refl)
whole_rest line field (Some rest) false h is =
    let some = length-slice_split (λ b. b == 32) rest.now in
    let more = ap (λ (fs : List (List ℕ)). length fs) h in
    (λ whole. absurd (both_ways false refl whole), λ one. absurd (omega arith))
