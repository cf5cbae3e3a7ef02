-- The least key of the parcels at fault.
use Rattle.std.proofs.Common.{◌≡◌, ⊎_elim, ℕ, ◌+◌, ◌<◌, List, [], ◌∷◌, ◌++◌, get_or, take, Option, Some, None, refl}
use Rattle.std.proofs.Common.{sym, ap, ◌∙◌, subst, append_assoc, arith}
use Rattle.std.specs.Prelude.{Contains, length}
use Rattle.std.proofs.lemmas.List.{take_more}
use Rattle.std.proofs.lemmas.List.Elements.{Contains-append_left, Contains-push, Contains-push_cases}
use Rattle.trace_model.specs.Parcel.{Parcel}
use Rattle.trace_run.specs.declared.ledgers.least.ParcelKey.{ParcelKey}
use Rattle.trace_run.specs.ledgers.Audit.{IsUpTo, IsLeast}
use Rattle.trace_run.specs.ledgers.Least.{IsLeastKey, IsLeastFault}

some_key : (a b : ParcelKey) → Some a ≡ Some b → a ≡ b
some_key a b e = cc

up_to_all : (a b c d e f : ℕ) → IsUpTo a b c d → IsUpTo c d e f → IsUpTo a b e f
up_to_all a b c d e f one other =
    let low = one.cpu_le in let high = other.cpu_le in record {
      cpu_le = omega arith;
      fill_le = λ same. let first = one.fill_le (omega arith) in
          let second = other.fill_le (omega arith) in
          omega arith;
    }

module _ (good : Parcel → Type 0) (these : List Parcel) (x : Parcel) where
  -- one parcel more, that is good
  pub good_more : (found : Option ParcelKey) → good x → IsLeastFault these good found
      → IsLeastFault (these ++ x ∷ []) good found
  good_more None fine all =
      λ p has. ⊎_elim (λ before. all p before) (λ is. subst good is fine) (Contains-push_cases these x p has)
  good_more (Some key) fine l = record {
    parcel = l.parcel;
    is_one = (Contains-append_left these (x ∷ []) l.parcel l.is_one.0, l.is_one.1);
    cpu_is = l.cpu_is;
    fill_is = l.fill_is;
    least =
        λ p bad.
        ⊎_elim (λ before. l.least p (before, bad.1)) (λ is. absurd (bad.1 (subst good is fine)))
        (Contains-push_cases these x p bad.0);
  }

  abbrev IsBad : Parcel → Type 0
  IsBad p = Contains (these ++ x ∷ []) p × (good p → ⊥)

  -- none is before the least of the key that was found and the parcel's own
  none_before : (found : Option ParcelKey) (key : ParcelKey) → IsLeastFault these good found → IsLeastKey found x key
      → (p : Parcel) → IsBad p → IsUpTo key.cpu.0 key.fill.0 p.cpu p.fill
  none_before None key all least p bad =
      ⊎_elim (λ before. absurd (bad.1 (all p before)))
      (λ is. subst (λ (q : Parcel). IsUpTo key.cpu.0 key.fill.0 q.cpu q.fill) is least.up_to_parcel)
      (Contains-push_cases these x p bad.0)
  none_before (Some other) key l least p bad =
      ⊎_elim (λ before.
      up_to_all key.cpu.0 key.fill.0 other.cpu.0 other.fill.0 p.cpu p.fill (least.up_to_found other refl)
      (l.least p (before, bad.1)))
      (λ is. subst (λ (q : Parcel). IsUpTo key.cpu.0 key.fill.0 q.cpu q.fill) is least.up_to_parcel)
      (Contains-push_cases these x p bad.0)

  -- the key that was found is a bad parcel's
  found_before : (found : Option ParcelKey) (key : ParcelKey) → IsLeastFault these good found → found ≡ Some key
      → (p : Parcel) × IsBad p × (p.cpu ≡ key.cpu.0) × (p.fill ≡ key.fill.0)
  found_before None key all is = cc
  found_before (Some other) key l is = let same = some_key other key is in (
    l.parcel,
    (Contains-append_left these (x ∷ []) l.parcel l.is_one.0, l.is_one.1),
    l.cpu_is ∙ ap (λ (q : ParcelKey). q.cpu.0) same,
    l.fill_is ∙ ap (λ (q : ParcelKey). q.fill.0) same,
  )

  one_bad : (found : Option ParcelKey) (key : ParcelKey) → (good x → ⊥) → IsLeastFault these good found
      → IsLeastKey found x key → (p : Parcel) × IsBad p × (p.cpu ≡ key.cpu.0) × (p.fill ≡ key.fill.0)
  one_bad found key bad l least = ⊎_elim
      (λ own. (
        x,
        (Contains-push these x, bad),
        sym (ap (λ (q : ParcelKey). q.cpu.0) own),
        sym (ap (λ (q : ParcelKey). q.fill.0) own),
      ))
      (λ before. found_before found key l before) least.one_of

  -- one parcel more, that isn't good
  pub bad_more : (found : Option ParcelKey) (key : ParcelKey) → (good x → ⊥) → IsLeastFault these good found
      → IsLeastKey found x key → IsLeastFault (these ++ x ∷ []) good (Some key)
  bad_more found key bad l least = let (p, is_bad, cpu_is, fill_is) = one_bad found key bad l least in
      record { parcel = p; is_one = is_bad; cpu_is = cpu_is; fill_is = fill_is; least = none_before found key l least }

-- ---- an element of a list, after others and those before it

one_more : (these xs : List Parcel) (i : ℕ) (x : Parcel) → i < length xs → x ≡ get_or xs i x
    → (these ++ take i xs) ++ x ∷ [] ≡ these ++ take (i + 1) xs
one_more these xs i x within is =
    append_assoc these (take i xs) (x ∷ [])
    ∙ ap (λ (l : List Parcel). these ++ l) (ap (λ (y : Parcel). take i xs ++ y ∷ []) is ∙ sym (take_more xs i x within))

pub good_at : (good : Parcel → Type 0) (these xs : List Parcel) (i : ℕ) (x : Parcel) (found : Option ParcelKey)
    → i < length xs → x ≡ get_or xs i x → good x
    → IsLeastFault (these ++ take i xs) good found → IsLeastFault (these ++ take (i + 1) xs) good found
good_at good these xs i x found within is fine l =
    subst (λ (all : List Parcel). IsLeastFault all good found) (one_more these xs i x within is)
    (good_more good (these ++ take i xs) x found fine l)

pub bad_at : (good : Parcel → Type 0) (these xs : List Parcel) (i : ℕ) (x : Parcel) (found : Option ParcelKey)
    (key : ParcelKey) → i < length xs → x ≡ get_or xs i x → (good x → ⊥)
    → IsLeastFault (these ++ take i xs) good found → IsLeastKey found x key
    → IsLeastFault (these ++ take (i + 1) xs) good (Some key)
bad_at good these xs i x found key within is bad l least =
    subst (λ (all : List Parcel). IsLeastFault all good (Some key)) (one_more these xs i x within is)
    (bad_more good (these ++ take i xs) x found key bad l least)

-- ---- there is one least key

pub least_is_one : (these : Parcel → Type 0) (cpu fill other_cpu other_fill : ℕ) → IsLeast these cpu fill
    → IsLeast these other_cpu other_fill → (cpu ≡ other_cpu) × (fill ≡ other_fill)
least_is_one these cpu fill other_cpu other_fill a b =
    let to = a.least b.parcel b.is_one in let from = b.least a.parcel a.is_one in
    let low = to.cpu_le in let high = from.cpu_le in
    let own = a.cpu_is in let others = b.cpu_is in let fill_own = a.fill_is in let fill_others = b.fill_is in
    let one = to.fill_le (omega arith) in let two = from.fill_le (omega arith) in (omega arith, omega arith)
