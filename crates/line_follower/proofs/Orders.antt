-- The order of places is one.
use Rattle.std.proofs.Common.{◌≡◌, ⊎_elim, ◌⊎◌, ℕ, ◌<◌, ◌≤◌, inl, inr, true, false, true≢false, List}
use Rattle.std.proofs.Common.{get_or, sym, ap, ◌∙◌, arith}
use Rattle.std.proofs.Common.{Ordering, Less, Equal, Greater}
use Rattle.std.specs.Ordering.{nat_cmp, is_lt, ordering_then}
use Rattle.std.specs.Cmp.{IsStrictWeakOrder, nat_cmp_is}
use Rattle.std.proofs.lemmas.Bool.{cases_lt}
use Rattle.std.proofs.lemmas.Cmp.{nat_cmp_total, on_total, then_total}
use Rattle.std.proofs.lemmas.List.Sorted.{ranks_by}
use Rattle.line_follower.specs.declared.bounds.Progress.{Progress}
use Rattle.line_follower.specs.declared.lines.Place.{Place}
use Rattle.trace_model.specs.Listing.{IsBefore}
use Rattle.line_follower.specs.Order.{is_before, place_line}
use Rattle.line_follower.specs.Known.{IsUpTo, IsFinal}

pub places_are_ordered : IsStrictWeakOrder is_before
places_are_ordered =
    ranks_by (then_total (on_total (λ (p : Place). p.moment.0) nat_cmp_total)
    (then_total (on_total (λ (p : Place). p.cpu.0) nat_cmp_total)
    (on_total (λ (p : Place). p.number.0) nat_cmp_total)))
    (λ (p : Place). p)

-- if n isn't below m, it is above it, or the next numbers decide
not_below : (m n : ℕ) (o : Ordering) → is_lt (ordering_then (nat_cmp n m) o) ≡ false
    → (m < n) ⊎ ((m ≡ n) × (is_lt o ≡ false))
not_below m n o h = ⊎_elim
    (λ (lt : m < n). inl lt)
    (λ (ge : n ≤ m). ⊎_elim
    (λ (lt : n < m). absurd (true≢false (ap (λ r. is_lt (ordering_then r o)) (nat_cmp_is n m Less lt) ∙ h)))
    (λ (le : m ≤ n). let e : m ≡ n = omega arith in
    inr (e, ap (λ r. is_lt (ordering_then r o)) (nat_cmp_is n m Equal (sym e)) ∙ h))
    (cases_lt n m))
    (cases_lt m n)

-- the order of two pairs of numbers goes on to a third
pub up_to_trans : (a b c d e f : ℕ) → ((a < c) ⊎ ((a ≡ c) × (b ≤ d))) → ((c < e) ⊎ ((c ≡ e) × (d ≤ f)))
    → (a < e) ⊎ ((a ≡ e) × (b ≤ f))
up_to_trans a b c d e f h k = ⊎_elim
    (λ (lt : a < c). inl (⊎_elim (λ (up : c < e). omega arith) (λ (same : (c ≡ e) × (d ≤ f)). omega arith) k))
    (λ (tie : (a ≡ c) × (b ≤ d)). ⊎_elim
    (λ (up : c < e). inl (omega arith))
    (λ (same : (c ≡ e) × (d ≤ f)). inr (omega arith, omega arith)) k)
    h

-- what isn't after a place that is final is so too
pub up_to_below : (x y : Place) → is_before y x ≡ false → (moment cpu : ℕ) → IsUpTo y moment cpu → IsUpTo x moment cpu
up_to_below x y h moment cpu up =
    up_to_trans x.moment.0 x.cpu.0 y.moment.0 y.cpu.0 moment cpu (⊎_elim
    (λ (lt : x.moment.0 < y.moment.0). inl lt)
    (λ (same : (x.moment.0 ≡ y.moment.0)
    × (is_lt (ordering_then (nat_cmp y.cpu.0 x.cpu.0) (nat_cmp y.number.0 x.number.0)) ≡ false)).
    inr (
      same.0,
      ⊎_elim (λ (lt : x.cpu.0 < y.cpu.0). omega arith)
          (λ (tie : (x.cpu.0 ≡ y.cpu.0) × (is_lt (nat_cmp y.number.0 x.number.0) ≡ false)). omega arith)
          (not_below x.cpu.0 y.cpu.0 (nat_cmp y.number.0 x.number.0) same.1),
    ))
    (not_below x.moment.0 y.moment.0 (ordering_then (nat_cmp y.cpu.0 x.cpu.0) (nat_cmp y.number.0 x.number.0)) h)) up

pub final_below : (cpus : List Progress) (x y : Place) → is_before y x ≡ false → IsFinal cpus y → IsFinal cpus x
final_below cpus x y h final =
    λ cpu lt d still. up_to_below x y h (get_or cpus cpu d).bound.0 cpu (final cpu lt d still)

-- ---- the order of a listing

first_below : (m n : ℕ) (o : Ordering) → is_lt (ordering_then (nat_cmp m n) o) ≡ true
    → (m < n) ⊎ ((m ≡ n) × (is_lt o ≡ true))
first_below m n o h = ⊎_elim
    (λ (lt : m < n). inl lt)
    (λ (ge : n ≤ m). ⊎_elim
    (λ (lt : n < m). absurd (true≢false (sym h ∙ ap (λ r. is_lt (ordering_then r o))
    (sym (nat_cmp_is m n Greater lt)))))
    (λ (le : m ≤ n). let e : m ≡ n = omega arith in
    inr (e, ap (λ r. is_lt (ordering_then r o)) (nat_cmp_is m n Equal e) ∙ h))
    (cases_lt n m))
    (cases_lt m n)

last_below : (m n : ℕ) → is_lt (nat_cmp m n) ≡ true → m < n
last_below m n h = ⊎_elim
    (λ (lt : m < n). lt)
    (λ (ge : n ≤ m). absurd (true≢false (sym h ∙ ⊎_elim
    (λ (lt : n < m). ap is_lt (sym (nat_cmp_is m n Greater lt)))
    (λ (le : m ≤ n). let e : m ≡ n = omega arith in ap is_lt (sym (nat_cmp_is m n Equal e)))
    (cases_lt n m))))
    (cases_lt m n)

less : (m n : ℕ) (o : Ordering) → m < n → is_lt (ordering_then (nat_cmp m n) o) ≡ true
less m n o lt = ap (λ r. is_lt (ordering_then r o)) (sym (nat_cmp_is m n Less lt))

then_less : (m n : ℕ) (o : Ordering) → m ≡ n → is_lt o ≡ true → is_lt (ordering_then (nat_cmp m n) o) ≡ true
then_less m n o e h = ap (λ r. is_lt (ordering_then r o)) (sym (nat_cmp_is m n Equal e)) ∙ h

more : (m n : ℕ) (o : Ordering) → n < m → is_lt (ordering_then (nat_cmp m n) o) ≡ false
more m n o lt = ap (λ r. is_lt (ordering_then r o)) (sym (nat_cmp_is m n Greater lt))

then_more : (m n : ℕ) (o : Ordering) → m ≡ n → is_lt o ≡ false → is_lt (ordering_then (nat_cmp m n) o) ≡ false
then_more m n o e h = ap (λ r. is_lt (ordering_then r o)) (sym (nat_cmp_is m n Equal e)) ∙ h

-- what is of a later moment, or of a later CPU at the moment, isn't before
pub not_before_later : (x y : Place) → x.moment.0 < y.moment.0 → is_before y x ≡ false
not_before_later x y lt =
    more y.moment.0 x.moment.0 (ordering_then (nat_cmp y.cpu.0 x.cpu.0) (nat_cmp y.number.0 x.number.0)) lt

pub not_before_at_once : (x y : Place) → x.moment.0 ≡ y.moment.0 → x.cpu.0 < y.cpu.0 → is_before y x ≡ false
not_before_at_once x y e lt =
    then_more y.moment.0 x.moment.0 (ordering_then (nat_cmp y.cpu.0 x.cpu.0) (nat_cmp y.number.0 x.number.0)) (sym e)
    (more y.cpu.0 x.cpu.0 (nat_cmp y.number.0 x.number.0) lt)

pub before_in_listing : (a b : Place) → is_before a b ≡ true → IsBefore (place_line a) (place_line b)
before_in_listing a b h = ⊎_elim
    (λ (lt : a.moment.0 < b.moment.0). inl lt)
    (λ (same : (a.moment.0 ≡ b.moment.0)
    × (is_lt (ordering_then (nat_cmp a.cpu.0 b.cpu.0) (nat_cmp a.number.0 b.number.0)) ≡ true)).
    inr (
      same.0,
      ⊎_elim (λ (lt : a.cpu.0 < b.cpu.0). inl lt)
          (λ (tie : (a.cpu.0 ≡ b.cpu.0) × (is_lt (nat_cmp a.number.0 b.number.0) ≡ true)).
          inr (tie.0, last_below a.number.0 b.number.0 tie.1))
          (first_below a.cpu.0 b.cpu.0 (nat_cmp a.number.0 b.number.0) same.1),
    ))
    (first_below a.moment.0 b.moment.0 (ordering_then (nat_cmp a.cpu.0 b.cpu.0) (nat_cmp a.number.0 b.number.0)) h)

pub listed_before : (a b : Place) → IsBefore (place_line a) (place_line b) → is_before a b ≡ true
listed_before a b h = ⊎_elim
    (λ (lt : a.moment.0 < b.moment.0).
    less a.moment.0 b.moment.0 (ordering_then (nat_cmp a.cpu.0 b.cpu.0) (nat_cmp a.number.0 b.number.0)) lt)
    (λ (same : (a.moment.0 ≡ b.moment.0)
    × ((a.cpu.0 < b.cpu.0) ⊎ ((a.cpu.0 ≡ b.cpu.0) × (a.number.0 < b.number.0)))).
    then_less a.moment.0 b.moment.0 (ordering_then (nat_cmp a.cpu.0 b.cpu.0) (nat_cmp a.number.0 b.number.0)) same.0
    (⊎_elim
    (λ (lt : a.cpu.0 < b.cpu.0). less a.cpu.0 b.cpu.0 (nat_cmp a.number.0 b.number.0) lt)
    (λ (tie : (a.cpu.0 ≡ b.cpu.0) × (a.number.0 < b.number.0)).
    then_less a.cpu.0 b.cpu.0 (nat_cmp a.number.0 b.number.0) tie.0
    (ap is_lt (sym (nat_cmp_is a.number.0 b.number.0 Less tie.1)))) same.1))
    h
