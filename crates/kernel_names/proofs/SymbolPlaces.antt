-- The last key of a map up to a number.
use Rattle.std.proofs.Common.{◌≡◌, ℕ, zero, suc, ◌+◌, ◌<◌, ◌≤◌, List, [], ◌∷◌, ◌++◌, Option, Some, None, IsSome}
use Rattle.std.proofs.Common.{refl, ap, ◌∙◌, arith}
use Rattle.std.specs.Option.{option_map}
use Rattle.std.specs.Ordering.{nat_cmp}
use Rattle.std.specs.BTreeMap.{BTreeMap, get}
use Rattle.std.specs.BTreeMap.Range.{IsRangeOf, IsUpToEnd}
use Rattle.std.specs.declared.ops.Bound.{Bound}
use Rattle.std.specs.declared.ops.Bound.TheVariants.{Unbounded}
use Rattle.std.proofs.lemmas.Map.Keys.{ge_from_not_lt}
use Rattle.kernel_names.specs.SymbolNames.{here_or_below, name_up_to}

none_unless : {X : Type 0} (o : Option X) → (IsSome o → ⊥) → o ≡ None
none_unless None h = refl
none_unless (Some x) h = absurd (h refl)

-- after the last key up to an end there is none up to it
pub none_behind_last : {X : Type 0} (m : BTreeMap ℕ X) (end : Bound ℕ) (r t : List (ℕ × X)) (first : ℕ) (x : X)
    → IsRangeOf nat_cmp Unbounded end m r → r ≡ t ++ (first, x) ∷ []
    → (q : ℕ) → first < q → IsUpToEnd nat_cmp end q → get nat_cmp m q ≡ None
none_behind_last m end r t first x range e q behind up_to =
    none_unless (get nat_cmp m q) (λ some.
    let le = ge_from_not_lt first q (range.4 (first, x) t e q (tt, up_to) some) in omega arith)

-- ---- the name up to an address

-- no address up to this one has a name
pub none_up_to : (names : ℕ → Option (List ℕ)) (address : ℕ) → ((q : ℕ) → q ≤ address → names q ≡ None)
    → name_up_to names address ≡ None
none_up_to names zero none = ap (λ o. here_or_below o None) (none zero (omega arith))
none_up_to names (suc address) none =
    ap (λ o. here_or_below o (name_up_to names address)) (none (suc address) (omega arith))
    ∙ ap (option_map (λ found. (found.0, suc found.1)))
    (none_up_to names address (λ q below. none q (omega (arith, below))))

-- an address has this name, and none behind it up to `address` has one
pub name_at_or_below : (names : ℕ → Option (List ℕ)) (start : ℕ) (name : List ℕ) (offset address : ℕ)
    → start + offset ≡ address → names start ≡ Some name
    → ((q : ℕ) → start < q → q ≤ address → names q ≡ None) → name_up_to names address ≡ Some (name, offset)
name_at_or_below names start name zero zero is here none =
    let same : zero ≡ start = omega (arith, is) in ap (λ o. here_or_below o None) (ap names same ∙ here)
name_at_or_below names start name zero (suc address) is here none =
    let same : suc address ≡ start = omega (arith, is) in
    ap (λ o. here_or_below o (name_up_to names address)) (ap names same ∙ here)
name_at_or_below names start name (suc offset) zero is here none = absurd (omega (arith, is))
name_at_or_below names start name (suc offset) (suc address) is here none =
    ap (λ o. here_or_below o (name_up_to names address)) (none (suc address) (omega (arith, is)) (omega arith))
    ∙ ap (option_map (λ found. (found.0, suc found.1)))
    (name_at_or_below names start name offset address (omega (arith, is)) here
    (λ q behind up_to. none q behind (omega (arith, up_to))))
