-- What belongs to numbers, listed: how a walk comes by it, and that the list has all of it.
use Rattle.std.proofs.Common.{◌≡◌, ⊎_elim, ℕ, zero, suc, ◌+◌, ◌-◌, ◌<◌, ◌≤◌, List, [], ◌∷◌, Option, Some, None, refl}
use Rattle.std.proofs.Common.{sym, ap, ◌∙◌, subst, arith}
use Rattle.std.specs.List.{slice_get}
use Rattle.std.proofs.lemmas.Bool.{cases_lt}
use Rattle.std.proofs.lemmas.Option.{none-some}
use Rattle.trace_model.proofs.collections.Elements.{some_is}
use Rattle.collector.specs.Listed.{AreListed, with_found, listed_within}
use Rattle.collector.proofs.Walks.{skip_all}

pub same_listed : {X : Type 0} {P Q : ℕ → X → Type 0} (list : List (ℕ × X)) → ((n : ℕ) (x : X) → P n x → Q n x)
    → ((n : ℕ) (x : X) → Q n x → P n x) → AreListed P list → AreListed Q list
same_listed list to back l = record {
  rising = l.rising;
  of_them = λ k a at. to a.0 a.1 (l.of_them k a at);
  whole = λ n x h. l.whole n x (back n x h);
}

-- this is found under the number, which is one of these
pub record Finds {X : Type 0} (find : ℕ → Option X) (low high n : ℕ) (x : X) : Type 0 where
  pub from : low ≤ n
  pub below : n < high
  pub found : find n ≡ Some x

module _ {X : Type 0} (find : ℕ → Option X) (high : ℕ) where
  with_one : (n : ℕ) (list : List (ℕ × X)) (x : X) → find n ≡ Some x → n < high
      → AreListed (Finds find (suc n) high) list → AreListed (Finds find n high) ((n, x) ∷ list)
  with_one n list x is below l = record { rising = rising; of_them = of_them; whole = whole }
    where
      rising : (k : ℕ) (a b : ℕ × X) → slice_get ((n, x) ∷ list) k ≡ Some a → slice_get ((n, x) ∷ list) (suc k) ≡ Some b
          → a.0 < b.0
      rising zero a b at next =
          let f = l.of_them 0 b next in
          let up = f.from in
          subst (λ (q : ℕ × X). q.0 < b.0) (some_is (n, x) a at) up
      rising (suc k) a b at next = l.rising k a b at next

      of_them : (k : ℕ) (a : ℕ × X) → slice_get ((n, x) ∷ list) k ≡ Some a → Finds find n high a.0 a.1
      of_them zero a at =
          subst (λ (q : ℕ × X). Finds find n high q.0 q.1) (some_is (n, x) a at)
          record { from = (let e : n ≤ n = omega arith in e); below = below; found = is }
      of_them (suc k) a at = let f = l.of_them k a at in
          record { from = (let up = f.from in omega arith); below = f.below; found = f.found }

      whole : (m : ℕ) (y : X) → Finds find n high m y → (k : ℕ) × (slice_get ((n, x) ∷ list) k ≡ Some (m, y))
      whole m y f = let up = f.from in ⊎_elim
          (λ (lt : n < m). let found = l.whole m y record { from = lt; below = f.below; found = f.found } in
          (suc found.0, found.1))
          (λ (le : m ≤ n).
          let e : n ≡ m = omega arith in
          let same : x ≡ y = some_is x y (sym is ∙ ap find e ∙ f.found) in
          (0, λ i. Some (e i, same i)))
          (cases_lt n m)

  without_one : (n : ℕ) (list : List (ℕ × X)) → find n ≡ None → AreListed (Finds find (suc n) high) list
      → AreListed (Finds find n high) list
  without_one n list none l = same_listed list
      (λ m x f. record { from = (let up = f.from in omega arith); below = f.below; found = f.found })
      (λ m x f. let up = f.from in record {
        from = ⊎_elim (λ (lt : n < m). lt)
            (λ (le : m ≤ n). let e : n ≡ m = omega arith in absurd (none-some x (sym none ∙ ap find e ∙ f.found)))
            (cases_lt n m);
        below = f.below;
        found = f.found;
      })
      l

  step : (n : ℕ) (list : List (ℕ × X)) (o : Option X) → find n ≡ o → n < high → AreListed (Finds find (suc n) high) list
      → AreListed (Finds find n high) (with_found n o list)
  step n list None is below l = without_one n list is l
  step n list (Some x) is below l = with_one n list x is below l

  -- the list is that of them
  pub listed_are : (count n : ℕ) → n + count ≡ high → AreListed (Finds find n high) (listed_within find n count)
  unfolding listed_within
  listed_are zero n e = record {
    rising = λ k a b at next. absurd (none-some a at);
    of_them = λ k a at. absurd (none-some a at);
    whole = λ m x f. let a = f.from in let b = f.below in absurd (omega arith);
  }
  listed_are (suc count) n e =
      step n (listed_within find (suc n) count) (find n) refl (omega arith) (listed_are count (suc n) (omega arith))

-- ---- how a walk comes by it

one_listed : {X : Type 0} (find : ℕ → Option X) (n count : ℕ) (o : Option X) → find n ≡ o
    → listed_within find n (suc count) ≡ with_found n o (listed_within find (suc n) count)
unfolding listed_within
one_listed {X} find n count o e = ap (λ (o : Option X). with_found n o (listed_within find (suc n) count)) e

none_listed : {X : Type 0} (find : ℕ → Option X) (n : ℕ) → listed_within find n 0 ≡ []
unfolding listed_within
none_listed find n = refl

skip_count : {X : Type 0} (find : ℕ → Option X) (k n count : ℕ) → ((m : ℕ) → n ≤ m → m < n + k → find m ≡ None)
    → listed_within find n (k + count) ≡ listed_within find (n + k) count
skip_count find = skip_all (listed_within find) (λ m. find m ≡ None) (λ n count none. one_listed find n count None none)

module _ {X : Type 0} (find : ℕ → Option X) (top n : ℕ) where
  -- numbers without anything are passed over
  pub listed_skip : (m : ℕ) → n ≤ m → m ≤ top → ((q : ℕ) → n ≤ q → q < m → find q ≡ None)
      → listed_within find n (top - n) ≡ listed_within find m (top - m)
  listed_skip m up fits none =
      let a : top - n ≡ (m - n) + (top - m) = omega arith in
      let b : n + (m - n) ≡ m = omega arith in
      ap (listed_within find n) a ∙ skip_count find (m - n) n (top - m) (λ q from below. none q from (omega arith))
      ∙ ap (λ q. listed_within find q (top - m)) b

  -- if there is nothing, the list is empty
  pub listed_none : ((q : ℕ) → n ≤ q → q < top → find q ≡ None) → listed_within find n (top - n) ≡ []
  listed_none none =
      let e : top - n ≡ top - n + 0 = omega arith in
      ap (listed_within find n) e ∙ skip_count find (top - n) n 0 (λ q from below. none q from (omega arith))
      ∙ none_listed find (n + (top - n))

  -- what belongs to the number itself is the first
  pub listed_first : (x : X) → n < top → find n ≡ Some x
      → listed_within find n (top - n) ≡ (n, x) ∷ listed_within find (n + 1) (top - (n + 1))
  listed_first x below is =
      let a : top - n ≡ suc (top - (n + 1)) = omega arith in
      let b : suc n ≡ n + 1 = omega arith in
      ap (listed_within find n) a ∙ one_listed find n (top - (n + 1)) (Some x) is
      ∙ ap (λ q. (n, x) ∷ listed_within find q (top - (n + 1))) b
