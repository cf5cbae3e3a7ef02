-- The parts of a text between separators, in the words of `part_cut`.
use Rattle.std.proofs.Common.{◌≡◌, ℕ, Bool, ◌||◌, List, [], ◌∷◌, Option, Some, None, MatchOption, Bor, ap, sym, ◌∙◌}
use Rattle.std.specs.Option.{option_and_then}
use Rattle.event_fields.specs.Texts.{parts_of}
use Rattle.kernel_names.specs.declared.constants.Term.{Term}
use Rattle.kernel_names.specs.Constants.{cast_in, casts_after, term_in, terms_after, joined}

-- what it says of a part and of what is after it
abbrev pub IsCut : ℕ → List ℕ → List ℕ → Option (Bor (List ℕ)) → Type 0
IsCut byte text part rest = MatchOption rest (parts_of byte text ≡ part ∷ [])
    (λ r. parts_of byte text ≡ part ∷ parts_of byte r.now)

-- the parts after it
abbrev pub rest_parts : ℕ → Option (Bor (List ℕ)) → List (List ℕ)
rest_parts byte None = []
rest_parts byte (Some r) = parts_of byte r.now

pub cut_parts : (byte : ℕ) (text part : List ℕ) (rest : Option (Bor (List ℕ))) → IsCut byte text part rest
    → parts_of byte text ≡ part ∷ rest_parts byte rest
cut_parts byte text part None cut = cut
cut_parts byte text part (Some r) cut = cut

-- one cast of several
pub casts_turn : (is_narrow : Bool) (left part : List ℕ) (rest : Option (Bor (List ℕ))) (cast : Option Bool)
    → IsCut 41 left part rest → cast ≡ cast_in part → casts_after is_narrow (parts_of 41 left)
    ≡ option_and_then (λ narrow. casts_after (is_narrow || narrow) (rest_parts 41 rest)) cast
casts_turn is_narrow left part rest cast cut is =
    ap (casts_after is_narrow) (cut_parts 41 left part rest cut)
    ∙ ap (option_and_then (λ narrow. casts_after (is_narrow || narrow) (rest_parts 41 rest))) (sym is)

-- one number of several
pub terms_turn : (bits : Term) (left part : List ℕ) (rest : Option (Bor (List ℕ))) (term : Option Term)
    → IsCut 124 left part rest → term ≡ term_in part → terms_after bits (parts_of 124 left)
    ≡ option_and_then (λ t. terms_after (joined bits t) (rest_parts 124 rest)) term
terms_turn bits left part rest term cut is =
    ap (terms_after bits) (cut_parts 124 left part rest cut)
    ∙ ap (option_and_then (λ t. terms_after (joined bits t) (rest_parts 124 rest))) (sym is)

pub terms_end : (bits now term : Term) (left part : List ℕ) (rest : Option (Bor (List ℕ))) → rest ≡ None
    → IsCut 124 left part rest → Some term ≡ term_in part → now ≡ joined bits term
    → terms_after bits (parts_of 124 left) ≡ Some now
terms_end bits now term left part rest none cut is now_is =
    terms_turn bits left part rest (Some term) cut is
    ∙ ap (λ r. terms_after (joined bits term) (rest_parts 124 r)) none ∙ ap (λ b. Some b) (sym now_is)

pub terms_go_on : (bits now term : Term) (left part : List ℕ) (rest : Option (Bor (List ℕ))) (r : Bor (List ℕ))
    → rest ≡ Some r → IsCut 124 left part rest → Some term ≡ term_in part → now ≡ joined bits term
    → terms_after bits (parts_of 124 left) ≡ terms_after now (parts_of 124 r.now)
terms_go_on bits now term left part rest r some cut is now_is =
    terms_turn bits left part rest (Some term) cut is
    ∙ ap (λ r. terms_after (joined bits term) (rest_parts 124 r)) some
    ∙ ap (λ b. terms_after b (parts_of 124 r.now)) (sym now_is)
