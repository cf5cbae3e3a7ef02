-- The words of a type, from the front.
use Rattle.std.proofs.Common.{◌≡◌, ℕ, Bool, true, false, List, [], ◌∷◌, filter, Option, Some, None, MatchOption, Bor}
use Rattle.std.proofs.Common.{refl, sym, ap, subst, ◌∙◌, not, is_some, ◌+◌, ◌<◌, length, arith}
use Rattle.std.specs.Prelude.{⊤}
use Rattle.std.specs.Prelude.{◌&&◌, ◌||◌, bytes_eq, unwrap_or}
use Rattle.std.specs.Cmp.Lexicographic.{pointwise}
use Rattle.std.specs.List.{list_any}
use Rattle.std.proofs.lemmas.Bool.{cond-true, cond-false}
use Rattle.event_fields.specs.Texts.{parts_of}
use Rattle.event_fields.specs.Types.{is_kept, words_of, is_named, is_among}

pub kept_word : (text word rest : List ℕ) → parts_of 32 text ≡ word ∷ parts_of 32 rest → is_kept word ≡ true
    → words_of text ≡ word ∷ words_of rest
unfolding words_of
kept_word text word rest cut kept = ap (filter is_kept) cut ∙ cond-true (is_kept word) _ _ kept

pub kept_last_word : (text word : List ℕ) → parts_of 32 text ≡ word ∷ [] → is_kept word ≡ true
    → words_of text ≡ word ∷ words_of []
unfolding words_of
kept_last_word text word cut kept = ap (filter is_kept) cut ∙ cond-true (is_kept word) _ _ kept

pub left_word : (text word rest : List ℕ) → parts_of 32 text ≡ word ∷ parts_of 32 rest → is_kept word ≡ false
    → words_of text ≡ words_of rest
unfolding words_of
left_word text word rest cut left = ap (filter is_kept) cut ∙ cond-false (is_kept word) _ _ left

pub left_last_word : (text word : List ℕ) → parts_of 32 text ≡ word ∷ [] → is_kept word ≡ false
    → words_of text ≡ []
unfolding words_of
left_last_word text word cut left = ap (filter is_kept) cut ∙ cond-false (is_kept word) _ _ left

-- ---- two types, word by word

both_at : (ws vs : List (List ℕ)) (b r : Bool) → b ≡ r
    → (b && pointwise bytes_eq ws vs) ≡ (r && pointwise bytes_eq ws vs)
both_at ws vs b r is = ap (λ x. x && pointwise bytes_eq ws vs) is

pub same_word : (text name word wanted rest others : List ℕ) → words_of text ≡ word ∷ words_of rest
    → words_of name ≡ wanted ∷ words_of others → bytes_eq word wanted ≡ true
    → is_named name text ≡ is_named others rest
unfolding is_named
same_word text name word wanted rest others is is' same =
    ap (λ ws. pointwise bytes_eq ws (words_of name)) is
    ∙ ap (λ vs. pointwise bytes_eq (word ∷ words_of rest) vs) is'
    ∙ both_at (words_of rest) (words_of others) _ _ same

pub other_word : (text name word wanted rest others : List ℕ) → words_of text ≡ word ∷ words_of rest
    → words_of name ≡ wanted ∷ words_of others → bytes_eq word wanted ≡ false
    → is_named name text ≡ false
unfolding is_named
other_word text name word wanted rest others is is' same =
    ap (λ ws. pointwise bytes_eq ws (words_of name)) is
    ∙ ap (λ vs. pointwise bytes_eq (word ∷ words_of rest) vs) is'
    ∙ both_at (words_of rest) (words_of others) _ _ same

pub longer_text : (text name word rest : List ℕ) → words_of text ≡ word ∷ words_of rest → words_of name ≡ []
    → is_named name text ≡ false
unfolding is_named
longer_text text name word rest is is' =
    ap (λ ws. pointwise bytes_eq ws (words_of name)) is
    ∙ ap (λ vs. pointwise bytes_eq (word ∷ words_of rest) vs) is'

pub longer_name : (text name word rest : List ℕ) → words_of text ≡ [] → words_of name ≡ word ∷ words_of rest
    → is_named name text ≡ false
unfolding is_named
longer_name text name word rest is is' =
    ap (λ ws. pointwise bytes_eq ws (words_of name)) is
    ∙ ap (λ vs. pointwise bytes_eq [] vs) is'

pub both_end : (text name : List ℕ) → words_of text ≡ [] → words_of name ≡ [] → is_named name text ≡ true
unfolding is_named
both_end text name is is' =
    ap (λ ws. pointwise bytes_eq ws (words_of name)) is
    ∙ ap (λ vs. pointwise bytes_eq [] vs) is'

-- ---- a type among names

either_at : (a b r : Bool) → a ≡ r → (a || b) ≡ (r || b)
either_at a b r is = ap (λ x. x || b) is

pub this_name : (names text name rest : List ℕ) → parts_of 44 names ≡ name ∷ parts_of 44 rest
    → is_named name text ≡ true → is_among names text ≡ true
unfolding is_among
this_name names text name rest cut is = ap (list_any (λ n. is_named n text)) cut ∙ either_at _ _ _ is

pub this_last_name : (names text name : List ℕ) → parts_of 44 names ≡ name ∷ []
    → is_named name text ≡ true → is_among names text ≡ true
unfolding is_among
this_last_name names text name cut is = ap (list_any (λ n. is_named n text)) cut ∙ either_at _ _ _ is

pub other_name : (names text name rest : List ℕ) → parts_of 44 names ≡ name ∷ parts_of 44 rest
    → is_named name text ≡ false → is_among names text ≡ is_among rest text
unfolding is_among
other_name names text name rest cut is = ap (list_any (λ n. is_named n text)) cut ∙ either_at _ _ _ is

pub no_name : (names text name : List ℕ) → parts_of 44 names ≡ name ∷ []
    → is_named name text ≡ false → is_among names text ≡ false
unfolding is_among
no_name names text name cut is = ap (list_any (λ n. is_named n text)) cut ∙ either_at _ _ _ is

-- ---- the same, in the words of `part_cut`
-- what it says of a part and of what is after it
abbrev pub IsCut : ℕ → List ℕ → List ℕ → Option (Bor (List ℕ)) → Type 0
IsCut byte text part rest = MatchOption rest (parts_of byte text ≡ part ∷ [])
    (λ r. parts_of byte text ≡ part ∷ parts_of byte r.now)

pub kept_here : (text word : List ℕ) (rest : Option (Bor (List ℕ))) (r none : Bor (List ℕ)) (all : List (List ℕ))
    → IsCut 32 text word rest → r ≡ unwrap_or rest none → none.now ≡ [] → is_kept word ≡ true → words_of text ≡ all
    → all ≡ word ∷ words_of r.now
kept_here text word None r none all cut is empty kept so_far =
    sym so_far ∙ kept_last_word text word cut kept
    ∙ ap (λ ws. word ∷ words_of ws) (sym empty)
    ∙ ap (λ (b : Bor (List ℕ)). word ∷ words_of b.now) (sym is)
kept_here text word (Some rest) r none all cut is empty kept so_far =
    sym so_far ∙ kept_word text word rest.now cut kept
    ∙ ap (λ (b : Bor (List ℕ)). word ∷ words_of b.now) (sym is)

pub left_at_end : (text word : List ℕ) (rest : Option (Bor (List ℕ))) (all : List (List ℕ)) → rest ≡ None
    → IsCut 32 text word rest → is_kept word ≡ false → words_of text ≡ all → all ≡ []
left_at_end text word rest all is cut left so_far =
    sym so_far ∙ left_last_word text word (subst (IsCut 32 text word) is cut) left

pub left_here : (text word : List ℕ) (rest : Option (Bor (List ℕ))) (r : Bor (List ℕ)) (all : List (List ℕ))
    → rest ≡ Some r → IsCut 32 text word rest → is_kept word ≡ false → words_of text ≡ all → words_of r.now ≡ all
left_here text word rest r all is cut left so_far =
    sym (left_word text word r.now (subst (IsCut 32 text word) is cut) left) ∙ so_far

pub this_here : (names text name : List ℕ) (rest : Option (Bor (List ℕ))) → IsCut 44 names name rest
    → is_named name text ≡ true → is_among names text ≡ true
this_here names text name None cut is = this_last_name names text name cut is
this_here names text name (Some rest) cut is = this_name names text name rest.now cut is

pub no_name_here : (names text name : List ℕ) (rest : Option (Bor (List ℕ))) → rest ≡ None → IsCut 44 names name rest
    → is_named name text ≡ false → is_among names text ≡ false
no_name_here names text name rest end cut is = no_name names text name (subst (IsCut 44 names name) end cut) is

pub other_name_here : (names text name : List ℕ) (rest : Option (Bor (List ℕ))) (r : Bor (List ℕ)) → rest ≡ Some r
    → IsCut 44 names name rest → is_named name text ≡ false → is_among names text ≡ is_among r.now text
other_name_here names text name rest r some cut is =
    other_name names text name r.now (subst (IsCut 44 names name) some cut) is

-- what `next_word` says at the end of a type
pub ends_together : (text name : List ℕ) (next : Option (Bor (List ℕ) × Bor (List ℕ))) (r : Bool) → words_of text ≡ []
    → MatchOption next (words_of name ≡ []) (λ found. words_of name ≡ found.0.now ∷ words_of found.1.now)
    → is_some next ≡ not r → r ≡ is_named name text
ends_together text name None true end next is = sym (both_end text name end next)
ends_together text name None false end next is = absurd (cc)
ends_together text name (Some found) true end next is = absurd (cc)
ends_together text name (Some found) false end next is =
    sym (longer_name text name found.0.now found.1.now end next)

pub differs : (b : Bool) → not b ≡ true → b ≡ false
differs true h = absurd (cc)
differs false h = refl

pub agrees : (b : Bool) → not b ≡ false → b ≡ true
agrees true h = refl
agrees false h = absurd (cc)

pub left_is_shorter : (rest : Option (Bor (List ℕ))) (r : Bor (List ℕ)) (length_of before : ℕ) → rest ≡ Some r
    → MatchOption rest ⊤ (λ left. length_of ≡ before + 1 + length left.now) → length r.now < length_of
left_is_shorter rest r length_of before some len =
    let h = subst (λ (o : Option (Bor (List ℕ))).
    MatchOption o ⊤ (λ left. length_of ≡ before + 1 + length left.now)) some len in
    omega arith
