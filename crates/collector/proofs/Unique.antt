-- There is one list of what belongs to numbers, and from an element on it lists what belongs to the numbers from there.
use Rattle.std.proofs.Common.{◌≡◌, ◌⊎◌, inl, inr, ⊎_elim, ℕ, zero, suc, ◌^◌, ◌<◌, ◌≤◌, List, [], ◌∷◌, drop, Some, refl}
use Rattle.std.proofs.Common.{sym, ap, subst, arith}
use Rattle.std.specs.List.{slice_get}
use Rattle.std.proofs.lemmas.Option.{none-some}
use Rattle.trace_model.specs.Record.{Record}
use Rattle.trace_model.specs.Parcel.{Parcel}
use Rattle.trace_model.specs.Collection.{Agree}
use Rattle.trace_model.proofs.collections.Elements.{some_is}
use Rattle.collector.specs.Sound.{AreSound}
use Rattle.collector.specs.Listed.{AreListed, AreRecordsOf, HasFrom, records_left}
use Rattle.collector.proofs.Lists.{same_listed}
use Rattle.collector.proofs.RecordsLeft.{records_are_left}

module _ {X : Type 0} where
  -- the numbers after the first are above it
  above : (x : ℕ × X) (list : List (ℕ × X))
      → ((k : ℕ) (a b : ℕ × X) → slice_get (x ∷ list) k ≡ Some a → slice_get (x ∷ list) (suc k) ≡ Some b → a.0 < b.0)
      → (k : ℕ) (a : ℕ × X) → slice_get list k ≡ Some a → x.0 < a.0
  above x [] rises k a at = absurd (none-some a at)
  above x (y ∷ list) rises zero a at = rises 0 x a refl at
  above x (y ∷ list) rises (suc k) a at =
      let one = rises 0 x y refl refl in
      let more = above y list (λ j b c p q. rises (suc j) b c p q) k a at in
      omega arith

  first_or_behind : (x y : ℕ × X) (list : List (ℕ × X)) (k : ℕ) → slice_get (x ∷ list) k ≡ Some y
      → (x ≡ y) ⊎ ((j : ℕ) × (slice_get list j ≡ Some y))
  first_or_behind x y list zero at = inl (some_is x y at)
  first_or_behind x y list (suc k) at = inr (k, at)

  -- the others are what belongs to the numbers above the first one's
  others_listed : (holds : ℕ → X → Type 0) (x : ℕ × X) (list : List (ℕ × X)) → AreListed holds (x ∷ list)
      → AreListed (λ n y. holds n y × (x.0 < n)) list
  others_listed holds x list l = record {
    rising = λ k a b at next. l.rising (suc k) a b at next;
    of_them = λ k a at. (l.of_them (suc k) a at, above x list l.rising k a at);
    whole = λ n y h.
        let found = l.whole n y h.0 in
        let up = h.1 in
        ⊎_elim (λ (e : x ≡ (n, y)). let same = ap (λ (q : ℕ × X). q.0) e in absurd (omega arith))
        (λ (there : (j : ℕ) × (slice_get list j ≡ Some (n, y))). there)
        (first_or_behind x (n, y) list found.0 found.1);
  }

  -- ---- one list

  not_before : (holds : ℕ → X → Type 0) (x y : ℕ × X) (xs : List (ℕ × X)) → AreListed holds (x ∷ xs) → holds y.0 y.1
      → (x ≡ y) ⊎ (x.0 < y.0)
  not_before holds x y xs l h =
      let found = l.whole y.0 y.1 h in
      ⊎_elim (λ (e : x ≡ y). inl e)
      (λ (there : (j : ℕ) × (slice_get xs j ≡ Some y)). inr (above x xs l.rising there.0 y there.1))
      (first_or_behind x y xs found.0 found.1)

  same_first : (holds : ℕ → X → Type 0) (x y : ℕ × X) (xs ys : List (ℕ × X)) → AreListed holds (x ∷ xs)
      → AreListed holds (y ∷ ys) → x ≡ y
  same_first holds x y xs ys l m = ⊎_elim
      (λ (e : x ≡ y). e)
      (λ (lt : x.0 < y.0).
      ⊎_elim (λ (e : y ≡ x). sym e) (λ (gt : y.0 < x.0). absurd (omega arith))
      (not_before holds y x ys m (l.of_them 0 x refl)))
      (not_before holds x y xs l (m.of_them 0 y refl))

  pub one_list : (holds : ℕ → X → Type 0) (xs ys : List (ℕ × X)) → AreListed holds xs → AreListed holds ys → xs ≡ ys
  one_list holds [] [] l m = refl
  one_list holds [] (y ∷ ys) l m = absurd (none-some y (l.whole y.0 y.1 (m.of_them 0 y refl)).1)
  one_list holds (x ∷ xs) [] l m = absurd (none-some x (m.whole x.0 x.1 (l.of_them 0 x refl)).1)
  one_list holds (x ∷ xs) (y ∷ ys) l m =
      let e : x ≡ y = same_first holds x y xs ys l m in
      let rest : xs ≡ ys = one_list (λ n z. holds n z × (x.0 < n)) xs ys (others_listed holds x xs l)
      (subst (λ (q : ℕ × X). AreListed (λ n z. holds n z × (q.0 < n)) ys) (sym e) (others_listed holds y ys m)) in
      λ i. e i ∷ rest i

  -- ---- from an element on

  pub rest_listed : (holds : ℕ → X → Type 0) (k : ℕ) (list : List (ℕ × X)) (a : ℕ × X) → AreListed holds list
      → slice_get list k ≡ Some a
      → AreListed (λ n y. holds n y × (a.0 ≤ n)) (drop k list)
  rest_listed holds k [] a l at = absurd (none-some a at)
  rest_listed holds zero (x ∷ list) a l at =
      let e : x ≡ a = some_is x a at in
      let same = ap (λ (q : ℕ × X). q.0) e in
      record {
        rising = l.rising;
        of_them = λ k b there. (
          l.of_them k b there,
          ⊎_elim (λ (f : x ≡ b). let is = ap (λ (q : ℕ × X). q.0) f in let up : a.0 ≤ b.0 = omega arith in up)
              (λ (s : (j : ℕ) × (slice_get list j ≡ Some b)). let lt = above x list l.rising s.0 b s.1 in
              let up : a.0 ≤ b.0 = omega arith in
              up)
              (first_or_behind x b list k there),
        );
        whole = λ n y h. l.whole n y h.0;
      }
  rest_listed holds (suc k) (x ∷ list) a l at =
      let up = above x list l.rising k a at in
      same_listed {P = λ n y. holds n y × (x.0 < n) × (a.0 ≤ n)} (drop k list)
      (λ n y h. (h.0, h.2))
      (λ n y h. let from = h.1 in (h.0, (let lt : x.0 < n = omega arith in lt), from))
      (same_listed {P = λ n y. (holds n y × (x.0 < n)) × (a.0 ≤ n)} (drop k list) (λ n y h. (h.0.0, h.0.1, h.1))
      (λ n y h. ((h.0, h.1), h.2))
      (rest_listed (λ n y. holds n y × (x.0 < n)) k list a (others_listed holds x list l) at))

-- the records that are left from the number of one of them are those from that one on
pub rest_is_left : (ps : List Parcel) (cpu number : ℕ) → Agree ps → AreSound ps → number < 2 ^ 64
    → (list : List (ℕ × Record)) (k : ℕ) (r : Record)
    → AreRecordsOf ps cpu list → slice_get list k ≡ Some (number, r) → records_left ps cpu number ≡ drop k list
rest_is_left ps cpu number agree sound fits list k r l at =
    one_list (HasFrom ps cpu number) (records_left ps cpu number) (drop k list)
    (records_are_left ps cpu number agree sound fits)
    (same_listed (drop k list) (λ n y h. record { has = h.0; up = h.1 }) (λ n y h. (h.has, h.up))
    (rest_listed _ k list (number, r) l at))
