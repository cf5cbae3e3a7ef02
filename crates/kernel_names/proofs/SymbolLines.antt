-- The functions that lines name, as the lines come one after the other.
use Rattle.std.proofs.Common.{◌≡◌, ℕ, List, [], ◌∷◌, ◌++◌, length, drop, Option, Some, None, MatchOption}
use Rattle.std.proofs.Common.{Bor, refl, sym, ap, subst, ◌∙◌, inl, inr, cond, eqb, true, false, is_some, arith}
use Rattle.std.specs.Option.{option_map, option_or}
use Rattle.std.specs.Ordering.{nat_cmp, is_eq}
use Rattle.std.specs.Cmp.{nat_cmp_is}
use Rattle.std.specs.declared.cmp.Ordering.TheVariants.{Less, Equal, Greater}
use Rattle.std.specs.BTreeMap.{BTreeMap, get, is_at, IsUnchanged, Updates}
use Rattle.std.specs.Map.{lookup}
use Rattle.std.specs.Prelude.{Result, Ok, Err, OnOk, OnErr}
use Rattle.std.proofs.lemmas.Bool.{cases_lt, cond-true, cond-false, true≢false}
use Rattle.std.proofs.lemmas.Bool.Decides.{eqb_tells}
use Rattle.std.proofs.lemmas.Option.{same_Some}
use Rattle.event_fields.specs.Texts.{parts_of}
use Rattle.kernel_names.specs.declared.symbol_names.SymbolNames.{SymbolNames}
use Rattle.kernel_names.specs.Symbols.{name_at, IsEnded, HasGrown, symbol_in, name_if_at, name_by}
use Rattle.kernel_names.specs.SymbolNames.{known_name, HasSymbols}
use Rattle.kernel_names.proofs.SymbolText.{stays, stays_ended, put_name, put_ended}

regroup : (a b c : Option (List ℕ)) → option_or (option_or a b) c ≡ option_or a (option_or b c)
regroup (Some x) b c = refl
regroup None b c = refl

before_none : (a : Option (List ℕ)) → option_or a None ≡ a
before_none (Some x) = refl
before_none None = refl

-- what `part_cut` says of a line and of what is after it
abbrev pub IsCut : List ℕ → List ℕ → Option (Bor (List ℕ)) → Type 0
IsCut text line rest = MatchOption rest (parts_of 10 text ≡ line ∷ [])
    (λ r. parts_of 10 text ≡ line ∷ parts_of 10 r.now)

-- what a line adds to what is known
abbrev pub Adds : List ℕ → (old new : SymbolNames) → Type 0
Adds line old new =
    (address : ℕ) → known_name new address ≡ option_or (known_name old address) (name_if_at address (symbol_in line))

-- the name at an address, by further lines
by_more : (address : ℕ) (lines more : List (List ℕ))
    → name_by address (lines ++ more) ≡ option_or (name_by address lines) (name_by address more)
by_more address [] more = refl
by_more address (line ∷ lines) more =
    ap (option_or (name_if_at address (symbol_in line))) (by_more address lines more)
    ∙ sym (regroup (name_if_at address (symbol_in line)) (name_by address lines) (name_by address more))

-- what is known, or else said by the lines of a text that are left, is what all lines say
abbrev pub IsLeft : (text left : List ℕ) → (old now : SymbolNames) → Type 0
IsLeft text left old now = (known : List (List ℕ)) → HasSymbols old known → (address : ℕ)
    → option_or (known_name now address) (name_by address (parts_of 10 left))
    ≡ name_by address (known ++ parts_of 10 text)

pub none_passed : (text : List ℕ) (symbols : SymbolNames) → IsLeft text text symbols symbols
none_passed text symbols known has address =
    ap (λ o. option_or o (name_by address (parts_of 10 text))) (has address)
    ∙ sym (by_more address known (parts_of 10 text))

pub passes : (text left line : List ℕ) (rest : Option (Bor (List ℕ))) (r : Bor (List ℕ)) (old now new : SymbolNames)
    → rest ≡ Some r → IsCut left line rest → IsLeft text left old now → Adds line now new
    → IsLeft text r.now old new
passes text left line rest r old now new some cut so_far adds known has address =
    let parts : parts_of 10 left ≡ line ∷ parts_of 10 r.now = subst (IsCut left line) some cut in
    ap (λ o. option_or o (name_by address (parts_of 10 r.now))) (adds address)
    ∙ regroup (known_name now address) (name_if_at address (symbol_in line)) (name_by address (parts_of 10 r.now))
    ∙ sym (ap (λ ls. option_or (known_name now address) (name_by address ls)) parts)
    ∙ so_far known has address

pub ends : (text left line : List ℕ) (rest : Option (Bor (List ℕ))) (old now new : SymbolNames)
    → rest ≡ None → IsCut left line rest → IsLeft text left old now → Adds line now new
    → (known : List (List ℕ)) → HasSymbols old known → HasSymbols new (known ++ parts_of 10 text)
ends text left line rest old now new none cut so_far adds known has address =
    let parts : parts_of 10 left ≡ line ∷ [] = subst (IsCut left line) none cut in
    adds address
    ∙ ap (λ o. option_or (known_name now address) o) (sym (before_none (name_if_at address (symbol_in line))))
    ∙ sym (ap (λ ls. option_or (known_name now address) (name_by address ls)) parts)
    ∙ so_far known has address

-- ---- one function more
pub none_if : {X : Type 0} (o : Option X) → is_some o ≡ false → o ≡ None
none_if None h = refl
none_if (Some x) h = absurd (true≢false h)

-- the names at all places of a map end in this text
abbrev pub AllEnded : List ℕ → BTreeMap ℕ ℕ → Type 0
AllEnded names places = (address at : ℕ) → get nat_cmp places address ≡ Some at → IsEnded at names

-- the name at an address, by the names and their places
abbrev pub name_of : List ℕ → BTreeMap ℕ ℕ → ℕ → Option (List ℕ)
name_of names places address = option_map (λ at. name_at (drop at names)) (get nat_cmp places address)

pub all_grown : (names names' : List ℕ) (places : BTreeMap ℕ ℕ) → AllEnded names places → HasGrown names names'
    → AllEnded names' places
all_grown names names' places ended grown address at found =
    subst (IsEnded at) (sym grown.1) (stays_ended at names grown.0 (ended address at found))

same_names : (names more : List ℕ) (place : Option ℕ) → ((at : ℕ) → place ≡ Some at → IsEnded at names)
    → option_map (λ at. name_at (drop at (names ++ more))) place ≡ option_map (λ at. name_at (drop at names)) place
same_names names more None ended = refl
same_names names more (Some at) ended = ap (λ n. Some n) (stays at names more (ended at refl))

-- equal keys compare as equal
eq_is : (k q : ℕ) → is_eq (nat_cmp k q) ≡ eqb k q
eq_is k q =
    elim (eqb_tells k q) [
      | inl same ↦ ap is_eq (sym (nat_cmp_is k q Equal same.1)) ∙ sym same.0
      | inr apart ↦ elim (cases_lt k q) [
        | inl less ↦ ap is_eq (sym (nat_cmp_is k q Less less)) ∙ sym apart.0
        | inr most ↦ elim (cases_lt q k) [
          | inl more ↦ ap is_eq (sym (nat_cmp_is k q Greater more)) ∙ sym apart.0
          | inr least ↦ absurd (apart.1 (omega arith))
        ]
      ]
    ]

module _ (names names' name : List ℕ) (old new : BTreeMap ℕ ℕ) (key place : ℕ)
    (ended : AllEnded names old) (put : names' ≡ names ++ (name ++ 10 ∷ [])) (whole : name_at name ≡ name)
    (place_is : place ≡ length names) (updates : Updates nat_cmp old new key (Some place)) where
  there_now : (address : ℕ) → get nat_cmp new address ≡ cond (eqb key address) (Some place) (get nat_cmp old address)
  there_now address = updates.0 address ∙ ap (λ b. cond b (Some place) (get nat_cmp old address)) (eq_is key address)

  put_all_ended : AllEnded names' new
  put_all_ended address at found =
      elim (eqb_tells key address) [
        | inl same ↦
            (let e : at ≡ length names =
            same_Some _ _ (sym found ∙ there_now address ∙ cond-true _ _ _ same.0) ∙ place_is in
            subst (IsEnded at) (sym put)
            (subst (λ n. IsEnded n (names ++ (name ++ 10 ∷ []))) (sym e) (put_ended names name whole)))
        | inr apart ↦
            (let e : get nat_cmp old address ≡ Some at =
            sym (there_now address ∙ cond-false _ _ _ apart.0) ∙ found in
            subst (IsEnded at) (sym put) (stays_ended at names (name ++ 10 ∷ []) (ended address at e)))
      ]

  put_here : (address : ℕ) → eqb key address ≡ true → name_of names' new address ≡ Some name
  put_here address same =
      ap (option_map (λ at. name_at (drop at names'))) (there_now address ∙ cond-true _ _ _ same)
      ∙ ap (λ n. Some (name_at (drop n names'))) place_is
      ∙ ap (λ ns. Some (name_at (drop (length names) ns))) put
      ∙ ap (λ n. Some n) (put_name names name whole)

  put_other : (address : ℕ) → eqb key address ≡ false → name_of names' new address ≡ name_of names old address
  put_other address apart =
      ap (option_map (λ at. name_at (drop at names'))) (there_now address ∙ cond-false _ _ _ apart)
      ∙ ap (λ ns. option_map (λ at. name_at (drop at ns)) (get nat_cmp old address)) put
      ∙ same_names names (name ++ 10 ∷ []) (get nat_cmp old address) (ended address)

  pub put_known : get nat_cmp old key ≡ None → (address : ℕ) → name_of names' new address
      ≡ option_or (name_of names old address) (cond (eqb key address) (Some name) None)
  put_known absent address =
      elim (eqb_tells key address) [
        | inl same ↦
            put_here address same.0
            ∙ sym (ap (λ o. option_or (option_map (λ at. name_at (drop at names)) o)
            (cond (eqb key address) (Some name) None)) (sym (ap (get nat_cmp old) same.1) ∙ absent)
            ∙ cond-true _ _ _ same.0)
        | inr apart ↦
            put_other address apart.0
            ∙ sym (before_none (name_of names old address))
            ∙ sym (ap (λ o. option_or (name_of names old address) o) (cond-false _ _ _ apart.0))
      ]

-- whether or not the place of a name was put
pub either_ended : {A E : Type 0} (names names' name : List ℕ) (old new : BTreeMap ℕ ℕ) (key place : ℕ)
    (result : Result A E) → AllEnded names old → names' ≡ names ++ (name ++ 10 ∷ []) → name_at name ≡ name
    → place ≡ length names → OnOk result (Updates nat_cmp old new key (Some place))
    → OnErr result (IsUnchanged old new) → AllEnded names' new
either_ended names names' name old new key place (Ok x) ended put whole place_is updates kept address at found =
    put_all_ended names names' name old new key place ended put whole place_is updates address at found
either_ended names names' name old new key place (Err e) ended put whole place_is updates kept address at found =
    let here : get nat_cmp old address ≡ Some at =
    sym (ap (λ es. lookup (is_at (nat_cmp address)) es) kept) ∙ found in
    subst (IsEnded at) (sym put) (stays_ended at names (name ++ 10 ∷ []) (ended address at here))
