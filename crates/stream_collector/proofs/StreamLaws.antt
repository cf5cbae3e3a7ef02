-- Each number is accounted for once, and forgetting changes nothing above.
use Rattle.std.proofs.Common.{◌≡◌, ◌⊎◌, ◌↔◌, ℕ, ◌<◌, ◌≤◌, List, Some, ⊎_elim, inl, inr, refl, sym, ap, ◌∙◌, subst}
use Rattle.std.proofs.Common.{arith}
use Rattle.std.proofs.lemmas.Bool.{cases_lt, cases_eq}
use Rattle.trace_model.specs.Record.{Record}
use Rattle.trace_model.specs.Parcel.{Parcel}
use Rattle.trace_model.specs.Collection.{Has, Misses}
use Rattle.collector.specs.Shown.{IsUnknown}
use Rattle.collector.specs.Known.{IsKnown, IsSameFrom, without_ended}
use Rattle.collector.proofs.Known.{filtered_from}
use Rattle.stream_collector.specs.declared.marks.Marks.{Marks}
use Rattle.stream_collector.specs.Marks.{bounds_of}
use Rattle.stream_collector.specs.Stream.{Stream, bound_of, end_of, HasRecord, IsMissing, IsUndelivered, IsOpen}
use Rattle.stream_collector.specs.Stream.{HasOutcome, has_record, is_missing, is_undelivered, IsExpected, IsUnknownYet}
use Rattle.stream_collector.specs.Forgetting.{HasBound, AreRaised, IsLost, GivesUpBelow}
use Rattle.stream_collector.proofs.Standing.{known_or_not, known_accounted, given_up_accounted, missed_or_not}
use Rattle.stream_collector.proofs.Standing.{unknown_from}

pub one : (s : Stream) (cpu n : ℕ) → bound_of s cpu ≤ n → (IsOpen s cpu n ⊎ HasOutcome s cpu n)
one s cpu n from = ⊎_elim
    (λ (unknown : IsUnknown s.parcels cpu n). ⊎_elim
    (λ (m : Misses s.given_up cpu n). inr (given_up_accounted s cpu n from m))
    (λ (not : Misses s.given_up cpu n → ⊥). inl record { from = from; not_given_up = not; unknown = unknown })
    (missed_or_not s.given_up cpu n))
    (λ (known : IsKnown s.parcels cpu n). inr (known_accounted s cpu n from known))
    (known_or_not s.parcels cpu n)

pub not_open : (s : Stream) (cpu n : ℕ) → HasOutcome s cpu n → IsOpen s cpu n → ⊥
not_open s cpu n (has_record r h) o = o.unknown.no_record r h.has
not_open s cpu n (is_missing m) o = o.unknown.not_missing m.misses
not_open s cpu n (is_undelivered from u) o = o.not_given_up u.given_up

pub unknown_first : (s : Stream) (cpu w n : ℕ) → IsOpen s cpu w
    → ((m : ℕ) → bound_of s cpu ≤ m → m < w → HasOutcome s cpu m)
    → IsUnknownYet s cpu n → IsUnknownYet s cpu w × (w ≤ n)
unknown_first s cpu w n o accounted a = ⊎_elim
    (λ (lt : n < w). absurd (not_open s cpu n (accounted n a.is_open.from lt) a.is_open))
    (λ (le : w ≤ n).
    let expected : IsExpected s cpu w = ⊎_elim
    (λ (there : (later : ℕ) × IsKnown s.parcels cpu later × (n < later)). inl
    (there.0, there.1, (let lt = there.2 in omega arith)))
    (λ (there : (end : ℕ) × (end_of s cpu ≡ Some end) × (n < end)). inr
    (there.0, there.1, (let lt = there.2 in omega arith)))
    a.expected in
    (record { is_open = o; expected = expected }, le))
    (cases_lt n w)

-- ---- forgetting

-- from the bounds on, the same numbers were given up
abbrev pub IsGivenUpSame : (old new : Stream) → Type 0
IsGivenUpSame old new = (c n : ℕ) → bound_of new c ≤ n → (Misses old.given_up c n ↔ Misses new.given_up c n)

-- one bound is raised
pub one_raised : (old new : Stream) (cpu bound : ℕ) → bound_of old cpu ≤ bound → HasBound old new cpu bound
    → AreRaised old new
one_raised old new cpu bound up raised = record { rise = rise; ends = ends; kept = raised.kept }
  where
    rise : (c : ℕ) → bound_of old c ≤ bound_of new c
    rise c = ⊎_elim
        (λ (e : c ≡ cpu). let is : bound_of new c ≡ bound = ap (λ (k : ℕ). bound_of new k) e ∙ ap
        (λ (m : Marks). m.bound) raised.marks in
        let same : bound_of old c ≡ bound_of old cpu = ap (λ (k : ℕ). bound_of old k) e in omega arith)
        (λ (apart : c ≡ cpu → ⊥). let is : bound_of new c ≡ bound_of old c = ap (λ (m : Marks). m.bound)
        (raised.others c apart) in omega arith)
        (cases_eq c cpu)

    ends : (c : ℕ) → end_of new c ≡ end_of old c
    ends c = ⊎_elim
        (λ (e : c ≡ cpu). ap (λ (k : ℕ). end_of new k) e ∙ ap (λ (m : Marks). m.end) raised.marks
        ∙ ap (λ (k : ℕ). end_of old k) (sym e))
        (λ (apart : c ≡ cpu → ⊥). ap (λ (m : Marks). m.end) (raised.others c apart))
        (cases_eq c cpu)

-- equal parcels of given up numbers give up the same
pub given_same : (old new : Stream) → new.given_up ≡ old.given_up → IsGivenUpSame old new
given_same old new same c n from = (
  λ m. subst (λ (ps : List Parcel). Misses ps c n) (sym same) m,
  λ m. subst (λ (ps : List Parcel). Misses ps c n) same m,
)

-- what is lost is below the bound
pub given_lost : (old new : Stream) (cpu bound : ℕ) → HasBound old new cpu bound
    → GivesUpBelow old new.given_up cpu bound → IsGivenUpSame old new
given_lost old new cpu bound raised gives c n from = (
  λ m. (gives c n).1 (inl m),
  λ m. ⊎_elim
      (λ own. own)
      (λ (lost : IsLost old cpu bound c n).
      let is : bound_of new c ≡ bound = ap (λ (k : ℕ). bound_of new k) lost.cpu_is
      ∙ ap (λ (m : Marks). m.bound) raised.marks in
      let less = lost.below in absurd (omega arith))
      ((gives c n).0 m),
)

module _ (old new : Stream) (raised : AreRaised old new) where
  rises : (c : ℕ) → bound_of old c ≤ bound_of new c
  rises c = raised.rise c

  filtered : IsSameFrom (bounds_of new.marks) old.parcels (without_ended (bounds_of new.marks) old.parcels)
  filtered = filtered_from old.parcels (bounds_of new.marks)

  has_to : (c n : ℕ) (r : Record) → bound_of new c ≤ n → Has old.parcels c n r → Has new.parcels c n r
  has_to c n r from h = raised.kept.above.has c n r ((filtered.has c n r from).0 h)

  has_back : (c n : ℕ) (r : Record) → bound_of new c ≤ n → Has new.parcels c n r → Has old.parcels c n r
  has_back c n r from h = (filtered.has c n r from).1 (raised.kept.below.has c n r h)

  misses_to : (c n : ℕ) → bound_of new c ≤ n → Misses old.parcels c n → Misses new.parcels c n
  misses_to c n from m = raised.kept.above.misses c n ((filtered.misses c n from).0 m)

  misses_back : (c n : ℕ) → bound_of new c ≤ n → Misses new.parcels c n → Misses old.parcels c n
  misses_back c n from m = (filtered.misses c n from).1 (raised.kept.below.misses c n m)

  pub records_stay : (c n : ℕ) (r : Record) → bound_of new c ≤ n → (HasRecord old c n r ↔ HasRecord new c n r)
  records_stay c n r from = (
    λ h. record { from = from; has = has_to c n r from h.has },
    λ h. record { from = (let a = rises c in omega arith); has = has_back c n r from h.has },
  )

  pub missing_stay : (c n : ℕ) → bound_of new c ≤ n → (IsMissing old c n ↔ IsMissing new c n)
  missing_stay c n from = (
    λ h. record { from = from; misses = misses_to c n from h.misses },
    λ h. record { from = (let a = rises c in omega arith); misses = misses_back c n from h.misses },
  )

  unknown_to : (c n : ℕ) → bound_of new c ≤ n → IsUnknown old.parcels c n → IsUnknown new.parcels c n
  unknown_to c n from u = record {
    no_record = λ r there. u.no_record r (has_back c n r from there);
    not_missing = λ there. u.not_missing (misses_back c n from there);
  }

  unknown_back : (c n : ℕ) → bound_of new c ≤ n → IsUnknown new.parcels c n → IsUnknown old.parcels c n
  unknown_back c n from u = record {
    no_record = λ r there. u.no_record r (has_to c n r from there);
    not_missing = λ there. u.not_missing (misses_to c n from there);
  }

  pub undelivered_stay : IsGivenUpSame old new → (c n : ℕ) → bound_of new c ≤ n
      → (IsUndelivered old c n ↔ IsUndelivered new c n)
  undelivered_stay same c n from = (
    λ h. record {
      given_up = (same c n from).0 h.given_up;
      not_known = inr (unknown_to c n from (unknown_from old c n (let a = rises c in omega arith) h.not_known));
    },
    λ h. record {
      given_up = (same c n from).1 h.given_up;
      not_known = inr (unknown_back c n from (unknown_from new c n from h.not_known));
    },
  )

  pub stays_undelivered : ((c n : ℕ) → Misses old.given_up c n → Misses new.given_up c n) → (c n : ℕ)
      → IsUndelivered old c n → IsUndelivered new c n
  stays_undelivered more c n h = record {
    given_up = more c n h.given_up;
    not_known = ⊎_elim
        (λ (below : n < bound_of new c). inl below)
        (λ (from : bound_of new c ≤ n).
        inr (unknown_to c n from (unknown_from old c n (let a = rises c in omega arith) h.not_known)))
        (cases_lt n (bound_of new c));
  }

  ends_stay : (c : ℕ) → end_of new c ≡ end_of old c
  ends_stay c = raised.ends c

  expected_to : (c n : ℕ) → bound_of new c ≤ n → IsExpected old c n → IsExpected new c n
  expected_to c n from expected = ⊎_elim
      (λ (there : (later : ℕ) × IsKnown old.parcels c later × (n < later)).
      let lt = there.2 in
      let up : bound_of new c ≤ there.0 = omega arith in
      inl (
        there.0,
        ⊎_elim
            (λ (one : (r : Record) × Has old.parcels c there.0 r). inl (one.0, has_to c there.0 one.0 up one.1))
            (λ (m : Misses old.parcels c there.0). inr (misses_to c there.0 up m))
            there.1,
        lt,
      ))
      (λ (there : (end : ℕ) × (end_of old c ≡ Some end) × (n < end)).
      inr (there.0, ends_stay c ∙ there.1, there.2))
      expected

  expected_back : (c n : ℕ) → bound_of new c ≤ n → IsExpected new c n → IsExpected old c n
  expected_back c n from expected = ⊎_elim
      (λ (there : (later : ℕ) × IsKnown new.parcels c later × (n < later)).
      let lt = there.2 in
      let up : bound_of new c ≤ there.0 = omega arith in
      inl (
        there.0,
        ⊎_elim
            (λ (one : (r : Record) × Has new.parcels c there.0 r). inl (one.0, has_back c there.0 one.0 up one.1))
            (λ (m : Misses new.parcels c there.0). inr (misses_back c there.0 up m))
            there.1,
        lt,
      ))
      (λ (there : (end : ℕ) × (end_of new c ≡ Some end) × (n < end)).
      inr (there.0, sym (ends_stay c) ∙ there.1, there.2))
      expected

  pub unknown_stay : IsGivenUpSame old new → (c n : ℕ) → bound_of new c ≤ n
      → (IsUnknownYet old c n ↔ IsUnknownYet new c n)
  unknown_stay same c n from = (
    λ h. record {
      is_open = record {
        from = from;
        not_given_up = λ m. h.is_open.not_given_up ((same c n from).1 m);
        unknown = unknown_to c n from h.is_open.unknown;
      };
      expected = expected_to c n from h.expected;
    },
    λ h. record {
      is_open = record {
        from = (let a = rises c in omega arith);
        not_given_up = λ m. h.is_open.not_given_up ((same c n from).0 m);
        unknown = unknown_back c n from h.is_open.unknown;
      };
      expected = expected_back c n from h.expected;
    },
  )

pub unknown_given_up : (old new : Stream) (cpu bound n : ℕ) → HasBound old new cpu bound
    → GivesUpBelow old new.given_up cpu bound → IsUnknownYet old cpu n → n < bound → IsUndelivered new cpu n
unknown_given_up old new cpu bound n raised gives a below = record {
  given_up = (gives cpu n).1 (inr record {
    cpu_is = refl;
    from = a.is_open.from;
    below = below;
    unknown = a.is_open.unknown;
  });
  not_known = inl (let is = ap (λ (m : Marks). m.bound) raised.marks in omega arith);
}
