-- Names one after the other in a text, each with a line feed behind it.
use Rattle.std.proofs.Common.{◌≡◌, ℕ, zero, suc, ◌+◌, ◌<◌, ◌≤◌, not, ltb, leb, List, [], ◌∷◌, ◌++◌}
use Rattle.std.proofs.Common.{length, take, drop, Option, Some, None, refl, sym, ap, ◌∙◌, inl, inr, arith}
use Rattle.std.proofs.Common.{length-append, length-take, length-drop}
use Rattle.std.proofs.lemmas.Bool.{ltb-false, cases_Bool, cond-true, cond-false}
use Rattle.std.proofs.lemmas.List.{take-append-le, take_all}
use Rattle.std.proofs.Math.Seq.{drop-append_seam}
use Rattle.std.specs.Prelude.{unwrap_or, IfSome}
use Rattle.std.specs.List.{position_or_len}
use Rattle.kernel_names.specs.declared.symbols.LentSymbol.{LentSymbol}
use Rattle.kernel_names.specs.Symbols.{name_at, IsEnded}

-- how many bytes the name at the front has
abbrev pub name_end : List ℕ → ℕ
name_end text = position_or_len (λ b. leb b 32) text

end_within : (text : List ℕ) → name_end text ≤ length text
end_within [] = omega arith
end_within (b ∷ text) =
    elim (cases_Bool (leb b 32)) [
      | inl blank ↦ (let e : name_end (b ∷ text) ≡ 0 = cond-false _ _ _ (ap not blank) in omega (arith, e))
      | inr other ↦
          (let e : name_end (b ∷ text) ≡ 1 + name_end text = cond-true _ _ _ (ap not other) in
          let again = end_within text in
          omega (arith, e, again))
    ]

-- the name at the front, by its end
pub name_is : (text : List ℕ) → name_at text ≡ take (name_end text) text
unfolding name_at
name_is text =
    ap (λ n. take n text)
    (elim (cases_Bool (ltb (name_end text) (length text))) [
      | inl there ↦ ap (λ o. unwrap_or o (length text)) (cond-true _ (Some (name_end text)) None there)
      | inr not_there ↦
          (let e = ap (λ o. unwrap_or o (length text)) (cond-false _ (Some (name_end text)) None not_there) in
          let within = end_within text in
          let beyond = ltb-false _ _ not_there in
          e ∙ omega arith)
    ])

pub length_of_name : (text : List ℕ) → length (name_at text) ≡ name_end text
length_of_name text =
    let within = end_within text in
    ap length (name_is text) ∙ length-take (name_end text) text ∙ omega arith

-- what is behind the end of a name doesn't change it
end_more : (text more : List ℕ) → name_end text < length text → name_end (text ++ more) ≡ name_end text
end_more [] more below = absurd (omega arith)
end_more (b ∷ text) more below =
    elim (cases_Bool (leb b 32)) [
      | inl blank ↦ cond-false _ _ _ (ap not blank) ∙ sym (cond-false _ _ _ (ap not blank))
      | inr other ↦
          (let e : name_end (b ∷ text) ≡ 1 + name_end text = cond-true _ _ _ (ap not other) in
          let again = end_more text more (omega (arith, e)) in
          cond-true _ _ _ (ap not other) ∙ ap (λ n. 1 + n) again ∙ sym e)
    ]

name_more : (text more : List ℕ) → name_end text < length text → name_at (text ++ more) ≡ name_at text
name_more text more below =
    name_is (text ++ more) ∙ ap (λ n. take n (text ++ more)) (end_more text more below)
    ∙ take-append-le (name_end text) text more (omega arith) ∙ sym (name_is text)

drop_more : (at : ℕ) (text more : List ℕ) → at ≤ length text → drop at (text ++ more) ≡ drop at text ++ more
drop_more zero text more within = refl
drop_more (suc at) [] more within = absurd (omega arith)
drop_more (suc at) (b ∷ text) more within = drop_more at text more (omega arith)

-- a name in a text stays as it is when the text grows
pub stays : (at : ℕ) (text more : List ℕ) → IsEnded at text
    → name_at (drop at (text ++ more)) ≡ name_at (drop at text)
stays at text more ended =
    let len = length_of_name (drop at text) in
    let left = length-drop at text in
    ap name_at (drop_more at text more (omega arith)) ∙ name_more (drop at text) more (omega arith)

pub stays_ended : (at : ℕ) (text more : List ℕ) → IsEnded at text → IsEnded at (text ++ more)
stays_ended at text more ended =
    let same = ap length (stays at text more ended) in
    let len = length-append text more in
    omega arith

-- ---- a name put behind a text
-- a whole name ends where a line feed begins
end_before : (name : List ℕ) → name_end name ≡ length name → name_end (name ++ 10 ∷ []) ≡ length name
end_before [] whole = refl
end_before (b ∷ name) whole =
    elim (cases_Bool (leb b 32)) [
      | inl blank ↦ (let e : name_end (b ∷ name) ≡ 0 = cond-false _ _ _ (ap not blank) in absurd (omega (arith, e)))
      | inr other ↦
          (let e : name_end (b ∷ name) ≡ 1 + name_end name = cond-true _ _ _ (ap not other) in
          let again = end_before name (omega (arith, e)) in
          cond-true _ _ _ (ap not other) ∙ ap (λ n. 1 + n) again ∙ omega arith)
    ]

pub put_name : (text name : List ℕ) → name_at name ≡ name
    → name_at (drop (length text) (text ++ (name ++ 10 ∷ []))) ≡ name
put_name text name whole =
    let end = end_before name (sym (length_of_name name) ∙ ap length whole) in
    ap name_at (drop-append_seam text (name ++ 10 ∷ []))
    ∙ name_is (name ++ 10 ∷ []) ∙ ap (λ n. take n (name ++ 10 ∷ [])) end
    ∙ take-append-le (length name) name (10 ∷ []) (omega arith) ∙ take_all (length name) name (omega arith)

pub put_ended : (text name : List ℕ) → name_at name ≡ name → IsEnded (length text) (text ++ (name ++ 10 ∷ []))
put_ended text name whole =
    let same = ap length (put_name text name whole) in
    let len = length-append text (name ++ 10 ∷ []) in
    let len' = length-append name (10 ∷ []) in
    omega arith

-- the name of a text is whole
front_whole : (text : List ℕ) → name_end (take (name_end text) text) ≡ name_end text
front_whole [] = refl
front_whole (b ∷ text) =
    elim (cases_Bool (leb b 32)) [
      | inl blank ↦
          (let e : name_end (b ∷ text) ≡ 0 = cond-false _ _ _ (ap not blank) in
          ap (λ n. name_end (take n (b ∷ text))) e ∙ sym e)
      | inr other ↦
          (let e : name_end (b ∷ text) ≡ suc (name_end text) = cond-true _ _ _ (ap not other) ∙ omega arith in
          ap (λ n. name_end (take n (b ∷ text))) e ∙ cond-true _ _ _ (ap not other)
          ∙ ap (λ n. 1 + n) (front_whole text) ∙ sym (cond-true _ _ _ (ap not other)))
    ]

pub name_whole : (text : List ℕ) → name_at (name_at text) ≡ name_at text
name_whole text =
    ap name_at (name_is text) ∙ name_is (take (name_end text) text)
    ∙ ap (λ n. take n (take (name_end text) text)) (front_whole text)
    ∙ take_all (name_end text) (take (name_end text) text)
    (let len = length-take (name_end text) text in omega arith)
    ∙ sym (name_is text)

pub whole_if_named : (text name : List ℕ) (symbol : Option LentSymbol) → name ≡ name_at text
    → IfSome symbol (λ s. s.name.now ≡ name) → IfSome symbol (λ s. name_at s.name.now ≡ s.name.now)
whole_if_named text name None is named = tt
whole_if_named text name (Some s) is named =
    ap name_at (named ∙ is) ∙ name_whole text ∙ sym (named ∙ is)
