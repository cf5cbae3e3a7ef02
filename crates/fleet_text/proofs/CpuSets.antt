-- Sets of CPUs: what is among them after one is put in.
use Rattle.std.proofs.Common.{◌≡◌, ◌⊎◌, ◌↔◌, ◌+◌, length, inl, inr, ⊎_elim, ℕ, zero, suc, List, [], ◌∷◌, ◌++◌, Some}
use Rattle.std.proofs.Common.{refl, sym, ap, ◌∙◌, subst}
use Rattle.std.specs.List.{slice_get, Contains}
use Rattle.std.proofs.Common.{Ordering, Less, Equal, Greater}
use Rattle.std.specs.Ordering.{nat_cmp, match_ordering}
use Rattle.std.specs.BTreeSet.{insert_key}
use Rattle.std.proofs.lemmas.Option.{none-some, slice_get_within, get_or_from_slice_get, slice_get-get_or}
use Rattle.std.proofs.lemmas.Map.Lookups.{exact_unsigned}
use Rattle.trace_model.proofs.collections.Elements.{some_is, get_in_front, get_behind, get_in_either}
use Rattle.collector.specs.Known.{AreCpusOf}
use Rattle.stream_collector.specs.Marks.{AreMarkedCpus}
use Rattle.stream_collector.specs.Stream.{Stream}
use Rattle.fleet_text.specs.Cpus.{IsAmong, IsThere, HasBoth}

pub only : {X : Type 0} (x : X) (k : ℕ) (y : X) → slice_get (x ∷ []) k ≡ Some y → x ≡ y
only x zero y at = some_is x y at
only x (suc k) y at = absurd (none-some y at)

pub contains_at : {X : Type 0} (xs : List X) (x : X) → IsAmong xs x → Contains xs x
contains_at xs x s = (s.0, slice_get_within xs s.0 x s.1, get_or_from_slice_get xs s.0 x x s.1)

pub stands_at : {X : Type 0} (xs : List X) (x : X) → Contains xs x → IsAmong xs x
stands_at xs x (k, within, is) = (k, subst (λ y. slice_get xs k ≡ Some y) is (slice_get-get_or xs k x within))

pub behind_one : {X : Type 0} (x : X) (xs : List X) (y : X) → IsAmong xs y → IsAmong (x ∷ xs) y
behind_one x xs y (k, at) = (suc k, at)

pub first_or_behind : {X : Type 0} (x : X) (xs : List X) (y : X) → IsAmong (x ∷ xs) y → (x ≡ y) ⊎ IsAmong xs y
first_or_behind x xs y (zero, at) = inl (some_is x y at)
first_or_behind x xs y (suc k, at) = inr (k, at)

abbrev put_by : (o : Ordering) (k x : ℕ) (xs : List ℕ) → List ℕ
put_by o k x xs = match_ordering o (k ∷ x ∷ xs) (x ∷ xs) (x ∷ insert_key nat_cmp xs k)

-- what is among them then was before, or it is the one
pub put_either : (ks : List ℕ) (k q : ℕ) → IsAmong (insert_key nat_cmp ks k) q → IsAmong ks q ⊎ (k ≡ q)
put_either [] k q s = ⊎_elim (λ is. inr is) (λ none. absurd (none-some q none.1)) (first_or_behind k [] q s)
put_either (x ∷ xs) k q s = by (nat_cmp k x) (λ more. put_either xs k q more) s
  where
    by : (o : Ordering) → (IsAmong (insert_key nat_cmp xs k) q → IsAmong xs q ⊎ (k ≡ q)) → IsAmong (put_by o k x xs) q
        → IsAmong (x ∷ xs) q ⊎ (k ≡ q)
    by Less rec s = ⊎_elim (λ is. inr is) (λ old. inl old) (first_or_behind k (x ∷ xs) q s)
    by Equal rec s = inl s
    by Greater rec s =
        ⊎_elim (λ is. inl (zero, ap (λ y. Some y) is))
        (λ more. ⊎_elim (λ old. inl (behind_one x xs q old)) (λ is. inr is) (rec more))
        (first_or_behind x (insert_key nat_cmp xs k) q s)

-- what was among them still is
pub put_keeps : (ks : List ℕ) (k q : ℕ) → IsAmong ks q → IsAmong (insert_key nat_cmp ks k) q
put_keeps [] k q s = absurd (none-some q s.1)
put_keeps (x ∷ xs) k q s = by (nat_cmp k x) (λ old. put_keeps xs k q old)
  where
    by : (o : Ordering) → (IsAmong xs q → IsAmong (insert_key nat_cmp xs k) q) → IsAmong (put_by o k x xs) q
    by Less rec = behind_one k (x ∷ xs) q s
    by Equal rec = s
    by Greater rec =
        ⊎_elim (λ is. (zero, ap (λ y. Some y) is))
        (λ old. behind_one x (insert_key nat_cmp xs k) q (rec old))
        (first_or_behind x xs q s)

-- and the one is
pub put_is_there : (ks : List ℕ) (k : ℕ) → IsAmong (insert_key nat_cmp ks k) k
put_is_there [] k = (zero, refl)
put_is_there (x ∷ xs) k = by (nat_cmp k x) refl (put_is_there xs k)
  where
    by : (o : Ordering) → nat_cmp k x ≡ o → IsAmong (insert_key nat_cmp xs k) k → IsAmong (put_by o k x xs) k
    by Less is rec = (zero, refl)
    by Equal is rec = (zero, ap (λ y. Some y) (sym (exact_unsigned k x is)))
    by Greater is rec = behind_one x (insert_key nat_cmp xs k) k rec

pub both_none : (old : List ℕ) → HasBoth old old []
both_none old = record {
  of_them = λ cpu s. inl s;
  old_are = λ cpu s. s;
  more_are = λ cpu s. absurd (none-some cpu s.1);
}

-- one CPU more
pub both_more : (old mid new done : List ℕ) (cpu : ℕ) → HasBoth old mid done → new ≡ insert_key nat_cmp mid cpu
    → HasBoth old new (done ++ cpu ∷ [])
both_more old mid new done cpu both is = record {
  of_them = λ c s. ⊎_elim
      (λ there. ⊎_elim (λ was. inl was) (λ (k, at). inr (k, get_in_front done (cpu ∷ []) k c at))
      (both.of_them c there))
      (λ here. inr (length done + 0, get_behind done (cpu ∷ []) 0 ∙ ap (λ y. Some y) here))
      (put_either mid cpu c (subst (λ xs. IsAmong xs c) is s));
  old_are = λ c s. subst (λ xs. IsAmong xs c) (sym is) (put_keeps mid cpu c (both.old_are c s));
  more_are = λ c (k, at). subst (λ xs. IsAmong xs c) (sym is)
      (⊎_elim (λ there. put_keeps mid cpu c (both.more_are c there))
      (λ (j, here). subst (λ y. IsAmong (insert_key nat_cmp mid cpu) y) (only cpu j c here) (put_is_there mid cpu))
      (get_in_either done (cpu ∷ []) k c at));
}

-- the CPUs of parcels, those of what was given up, and those with marks are those of which something is there
pub all_there : (known : Stream) (a b c parcels given_up marked : List ℕ) → HasBoth [] a parcels → HasBoth a b given_up
    → HasBoth b c marked → AreCpusOf known.parcels parcels → AreCpusOf known.given_up given_up
    → AreMarkedCpus known.marks marked → (cpu : ℕ) → (IsAmong c cpu ↔ IsThere known cpu)
all_there known a b c parcels given_up marked first second third of_parcels of_given_up of_marks cpu = (
  λ s. ⊎_elim
      (λ in_b. ⊎_elim
      (λ in_a. ⊎_elim (λ none. absurd (none-some cpu none.1))
      (λ is. inl ((of_parcels.known cpu).0 (contains_at parcels cpu is))) (first.of_them cpu in_a))
      (λ is. inr (inl ((of_given_up.known cpu).0 (contains_at given_up cpu is)))) (second.of_them cpu in_b))
      (λ is. inr (inr ((of_marks.marked cpu).0 (contains_at marked cpu is)))) (third.of_them cpu s),
  λ there. ⊎_elim
      (λ is. third.old_are cpu
      (second.old_are cpu (first.more_are cpu (stands_at parcels cpu ((of_parcels.known cpu).1 is)))))
      (λ others. ⊎_elim
      (λ is. third.old_are cpu (second.more_are cpu (stands_at given_up cpu ((of_given_up.known cpu).1 is))))
      (λ is. third.more_are cpu (stands_at marked cpu ((of_marks.marked cpu).1 is))) others) there,
)
