-- Merging is the union, in any order.
use Rattle.std.proofs.Common.{◌≡◌, ◌⊎◌, ◌↔◌, ℕ, ◌<◌, ◌≤◌, Option, Some, None, ⊎_elim, inl, inr, refl, arith}
use Rattle.std.proofs.lemmas.Bool.{cases_lt}
use Rattle.trace_model.specs.Record.{Record}
use Rattle.trace_model.specs.Collection.{Has, Misses}
use Rattle.trace_model.proofs.collections.Joined.{joined_left, joined_right}
use Rattle.collector.specs.Shown.{IsUnknown}
use Rattle.collector.proofs.SideBySide.{has_either, misses_either}
use Rattle.stream_collector.specs.Stream.{Stream, bound_of, end_of, HasRecord, IsMissing, IsNotKnown}
use Rattle.stream_collector.specs.Merging.{IsMerge}
use Rattle.stream_collector.specs.Same.{IsSameStream}
use Rattle.stream_collector.proofs.Standing.{unknown_from}

module _ (a b ab : Stream) (merged : IsMerge a b ab) where
  pub has_merged : (c n : ℕ) (r : Record) → bound_of ab c ≤ n
      → (Has ab.parcels c n r ↔ (Has a.parcels c n r ⊎ Has b.parcels c n r))
  has_merged c n r from = (
    λ h. has_either a.parcels b.parcels c n r ((merged.kept.has c n r from).1 h),
    λ either. (merged.kept.has c n r from).0 (⊎_elim
        (λ own. (joined_left a.parcels b.parcels).has c n r own)
        (λ others. (joined_right a.parcels b.parcels).has c n r others)
        either),
  )

  pub misses_merged : (c n : ℕ) → bound_of ab c ≤ n
      → (Misses ab.parcels c n ↔ (Misses a.parcels c n ⊎ Misses b.parcels c n))
  misses_merged c n from = (
    λ m. misses_either a.parcels b.parcels c n ((merged.kept.misses c n from).1 m),
    λ either. (merged.kept.misses c n from).0 (⊎_elim
        (λ own. (joined_left a.parcels b.parcels).misses c n own)
        (λ others. (joined_right a.parcels b.parcels).misses c n others)
        either),
  )

  pub own_below : (c : ℕ) → bound_of a c ≤ bound_of ab c
  own_below c = let is = merged.bounds c in omega arith

  pub others_below : (c : ℕ) → bound_of b c ≤ bound_of ab c
  others_below c = let is = merged.bounds c in omega arith

  pub records_merged : (c n : ℕ) (r : Record) → bound_of ab c ≤ n
      → (HasRecord ab c n r ↔ (HasRecord a c n r ⊎ HasRecord b c n r))
  records_merged c n r from =
      let low = own_below c in
      let others_low = others_below c in (
        λ h. ⊎_elim
            (λ (own : Has a.parcels c n r). inl record { from = omega arith; has = own })
            (λ (others : Has b.parcels c n r). inr record { from = omega arith; has = others })
            ((has_merged c n r from).0 h.has),
        λ either. record {
          from = from;
          has = (has_merged c n r from).1 (⊎_elim
              (λ (own : HasRecord a c n r). inl own.has)
              (λ (others : HasRecord b c n r). inr others.has)
              either);
        },
      )

  pub missing_merged : (c n : ℕ) → bound_of ab c ≤ n → (IsMissing ab c n ↔ (IsMissing a c n ⊎ IsMissing b c n))
  missing_merged c n from =
      let low = own_below c in
      let others_low = others_below c in (
        λ h. ⊎_elim
            (λ (own : Misses a.parcels c n). inl record { from = omega arith; misses = own })
            (λ (others : Misses b.parcels c n). inr record { from = omega arith; misses = others })
            ((misses_merged c n from).0 h.misses),
        λ either. record {
          from = from;
          misses = (misses_merged c n from).1 (⊎_elim
              (λ (own : IsMissing a c n). inl own.misses)
              (λ (others : IsMissing b c n). inr others.misses)
              either);
        },
      )

-- ---- when two are the same

one_end : (x y : Option ℕ) → ((end : ℕ) → (x ≡ Some end ↔ y ≡ Some end)) → x ≡ y
one_end None None same = refl
one_end None (Some end) same = (same end).1 refl
one_end (Some end) None same = let e = (same end).0 refl in cc
one_end (Some end) (Some other) same = let e = (same end).0 refl in cc

record AgreeFrom (x y : Stream) : Type 0 where
  bounds : (c : ℕ) → bound_of x c ≡ bound_of y c
  ends : (c end : ℕ) → (end_of x c ≡ Some end ↔ end_of y c ≡ Some end)
  has : (c n : ℕ) (r : Record) → bound_of x c ≤ n → (Has x.parcels c n r ↔ Has y.parcels c n r)
  misses : (c n : ℕ) → bound_of x c ≤ n → (Misses x.parcels c n ↔ Misses y.parcels c n)
  given_up : (c n : ℕ) → (Misses x.given_up c n ↔ Misses y.given_up c n)

module _ (x y : Stream) (agree : AgreeFrom x y) where
  unknown_to : (c n : ℕ) → bound_of x c ≤ n → IsUnknown x.parcels c n → IsUnknown y.parcels c n
  unknown_to c n from u = record {
    no_record = λ r h. u.no_record r ((agree.has c n r from).1 h);
    not_missing = λ m. u.not_missing ((agree.misses c n from).1 m);
  }

  unknown_back : (c n : ℕ) → bound_of x c ≤ n → IsUnknown y.parcels c n → IsUnknown x.parcels c n
  unknown_back c n from u = record {
    no_record = λ r h. u.no_record r ((agree.has c n r from).0 h);
    not_missing = λ m. u.not_missing ((agree.misses c n from).0 m);
  }

  not_known_to : (c n : ℕ) → IsNotKnown x c n → IsNotKnown y c n
  not_known_to c n u =
      let is = agree.bounds c in
      ⊎_elim
      (λ (below : n < bound_of y c). inl below)
      (λ (from : bound_of y c ≤ n). let up : bound_of x c ≤ n = omega arith in
      inr (unknown_to c n up (unknown_from x c n up u)))
      (cases_lt n (bound_of y c))

  not_known_back : (c n : ℕ) → IsNotKnown y c n → IsNotKnown x c n
  not_known_back c n u =
      let is = agree.bounds c in
      ⊎_elim
      (λ (below : n < bound_of x c). inl below)
      (λ (from : bound_of x c ≤ n). inr (unknown_back c n from (unknown_from y c n (omega arith) u)))
      (cases_lt n (bound_of x c))

  same_by : IsSameStream x y
  same_by = record {
    bounds = agree.bounds;
    ends = λ c. one_end (end_of x c) (end_of y c) (agree.ends c);
    records = λ c n r. let is = agree.bounds c in (
      λ h. let from = h.from in record { from = omega arith; has = (agree.has c n r from).0 h.has },
      λ h. let from = h.from in let up : bound_of x c ≤ n = omega arith in
          record { from = up; has = (agree.has c n r up).1 h.has },
    );
    missing = λ c n. let is = agree.bounds c in (
      λ h. let from = h.from in record { from = omega arith; misses = (agree.misses c n from).0 h.misses },
      λ h. let from = h.from in let up : bound_of x c ≤ n = omega arith in
          record { from = up; misses = (agree.misses c n up).1 h.misses },
    );
    undelivered = λ c n. (
      λ u. record { given_up = (agree.given_up c n).0 u.given_up; not_known = not_known_to c n u.not_known },
      λ u. record { given_up = (agree.given_up c n).1 u.given_up; not_known = not_known_back c n u.not_known },
    );
  }

-- ---- in any order

swap : {P Q : Type 0} → P ⊎ Q → Q ⊎ P
swap either = ⊎_elim (λ p. inr p) (λ q. inl q) either

both_ways : {X Y P Q : Type 0} → (X ↔ (P ⊎ Q)) → (Y ↔ (Q ⊎ P)) → (X ↔ Y)
both_ways e f = (λ x. f.1 (swap (e.0 x)), λ y. e.1 (swap (f.0 y)))

pub merged_either_way : (a b ab ba : Stream) → IsMerge a b ab → IsMerge b a ba → IsSameStream ab ba
merged_either_way a b ab ba m k =
    let bounds : (c : ℕ) → bound_of ab c ≡ bound_of ba c =
    λ c. (let one = m.bounds c in let other = k.bounds c in omega arith) in
    same_by ab ba record {
      bounds = bounds;
      ends = λ c end. both_ways (m.ends c end) (k.ends c end);
      has = λ c n r from. both_ways (has_merged a b ab m c n r from)
          (has_merged b a ba k c n r (let is = bounds c in omega arith));
      misses = λ c n from. both_ways (misses_merged a b ab m c n from)
          (misses_merged b a ba k c n (let is = bounds c in omega arith));
      given_up = λ c n. both_ways (m.given_up c n) (k.given_up c n);
    }

regroup : {X Y XY YZ P Q R : Type 0} → (XY ↔ (P ⊎ Q)) → (X ↔ (XY ⊎ R)) → (YZ ↔ (Q ⊎ R)) → (Y ↔ (P ⊎ YZ)) → (X ↔ Y)
regroup xy x yz y = (
  λ one. y.1 (⊎_elim
      (λ both. ⊎_elim (λ p. inl p) (λ q. inr (yz.1 (inl q))) (xy.0 both))
      (λ r. inr (yz.1 (inr r)))
      (x.0 one)),
  λ other. x.1 (⊎_elim
      (λ p. inl (xy.1 (inl p)))
      (λ both. ⊎_elim (λ q. inl (xy.1 (inr q))) (λ r. inr r) (yz.0 both))
      (y.0 other)),
)

pub merged_regrouped : (a b c ab bc left right : Stream) → IsMerge a b ab → IsMerge ab c left → IsMerge b c bc
    → IsMerge a bc right → IsSameStream left right
merged_regrouped a b c ab bc left right m l k r =
    let bounds : (q : ℕ) → bound_of left q ≡ bound_of right q =
    λ q. (let one = m.bounds q in let two = l.bounds q in let three = k.bounds q in let four = r.bounds q in
    omega arith)
    in
    same_by left right record {
      bounds = bounds;
      ends = λ q end. regroup (m.ends q end) (l.ends q end) (k.ends q end) (r.ends q end);
      has = λ q n s from.
          let is = bounds q in
          let up = own_below ab c left l q in
          let down = others_below a bc right r q in
          regroup (has_merged a b ab m q n s (omega arith)) (has_merged ab c left l q n s from)
          (has_merged b c bc k q n s (omega arith)) (has_merged a bc right r q n s (omega arith));
      misses = λ q n from.
          let is = bounds q in
          let up = own_below ab c left l q in
          let down = others_below a bc right r q in
          regroup (misses_merged a b ab m q n (omega arith)) (misses_merged ab c left l q n from)
          (misses_merged b c bc k q n (omega arith)) (misses_merged a bc right r q n (omega arith));
      given_up = λ q n. regroup (m.given_up q n) (l.given_up q n) (k.given_up q n) (r.given_up q n);
    }

twice : {X P : Type 0} → (X ↔ (P ⊎ P)) → (X ↔ P)
twice e = (λ x. ⊎_elim (λ p. p) (λ p. p) (e.0 x), λ p. e.1 (inl p))

pub merged_with_itself : (a new : Stream) → IsMerge a a new → IsSameStream new a
merged_with_itself a new m = same_by new a record {
  bounds = λ c. (let is = m.bounds c in omega arith);
  ends = λ c end. twice (m.ends c end);
  has = λ c n r from. twice (has_merged a a new m c n r from);
  misses = λ c n from. twice (misses_merged a a new m c n from);
  given_up = λ c n. twice (m.given_up c n);
}
