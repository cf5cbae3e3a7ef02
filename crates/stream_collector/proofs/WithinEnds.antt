-- Numbers that are reached stay below the end of their CPU.
use Rattle.std.proofs.Common.{◌≡◌, ◌⊎◌, ℕ, ◌-◌, ◌<◌, ◌≤◌, List, [], ◌∷◌, ◌++◌, Some, ⊎_elim, inl, inr}
use Rattle.std.proofs.Common.{sym, ap, ◌∙◌, subst, arith}
use Rattle.std.proofs.lemmas.Bool.{cases_lt, cases_eq}
use Rattle.trace_model.specs.Record.{Record}
use Rattle.trace_model.specs.Parcel.{Parcel}
use Rattle.trace_model.specs.Collection.{Has, Misses}
use Rattle.collector.specs.Known.{IsKnown}
use Rattle.collector.proofs.Known.{filtered_from}
use Rattle.collector.proofs.SideBySide.{has_either, misses_either}
use Rattle.stream_collector.specs.declared.marks.Marks.{Marks}
use Rattle.stream_collector.specs.Marks.{marks_at, bounds_of, AllSaySomething}
use Rattle.stream_collector.specs.Stream.{Stream, bound_of, end_of, IsUpToEnd, HasOutcome, has_record, is_missing}
use Rattle.stream_collector.specs.Stream.{is_undelivered, HaveNoRecord}
use Rattle.stream_collector.specs.Marking.{IsNotOpen, by_bound, by_parcels, by_given_up, AreWithinEnds, IsStanding}
use Rattle.stream_collector.specs.Marking.{HasEnd}
use Rattle.stream_collector.specs.Faults.{IsWithinEnd}
use Rattle.stream_collector.specs.Forgetting.{HasBound, GivesUpBelow, IsLost}
use Rattle.stream_collector.specs.GivenUp.{IsInRun, GivesUp}

pub known_either : (ps qs : List Parcel) (cpu n : ℕ) → IsKnown (ps ++ qs) cpu n → IsKnown ps cpu n ⊎ IsKnown qs cpu n
known_either ps qs cpu n known = ⊎_elim
    (λ (there : (r : Record) × Has (ps ++ qs) cpu n r). ⊎_elim
    (λ (one : Has ps cpu n there.0). inl (inl (there.0, one)))
    (λ (other : Has qs cpu n there.0). inr (inl (there.0, other)))
    (has_either ps qs cpu n there.0 there.1))
    (λ (m : Misses (ps ++ qs) cpu n). ⊎_elim
    (λ (one : Misses ps cpu n). inl (inr one))
    (λ (other : Misses qs cpu n). inr (inr other))
    (misses_either ps qs cpu n m))
    known

-- a parcel more that isn't beyond an end
pub added_within : (s : Stream) (p : Parcel) → AreWithinEnds s → IsWithinEnd s p
    → AreWithinEnds record s { parcels = s.parcels ++ p ∷ [] }
added_within s p was fits cpu end n is (by_bound lt) = was cpu end n is (by_bound lt)
added_within s p was fits cpu end n is (by_given_up m) = was cpu end n is (by_given_up m)
added_within s p was fits cpu end n is (by_parcels k) = ⊎_elim
    (λ (own : IsKnown s.parcels cpu n). was cpu end n is (by_parcels own))
    (λ (one : IsKnown (p ∷ []) cpu n). ⊎_elim
    (λ (lt : n < end). lt)
    (λ (le : end ≤ n). absurd (fits cpu n record { end = end; end_is = is; beyond = le; known = one }))
    (cases_lt n end))
    (known_either s.parcels (p ∷ []) cpu n k)

-- an end above all that is reached
pub ended_within : (old new : Stream) (cpu count : ℕ) → AreWithinEnds old → HasEnd old new cpu count
    → ((n : ℕ) → IsNotOpen old cpu n → n < count) → AreWithinEnds new
ended_within old new cpu count was has all c end n is r = ⊎_elim
    (λ (e : c ≡ cpu).
    let here : marks_at new.marks c ≡ record { bound = bound_of old cpu; end = Some count } =
    ap (λ (k : ℕ). marks_at new.marks k) e ∙ has.marks in
    let ends : Some count ≡ Some end = sym (ap (λ (m : Marks). m.end) here) ∙ is in
    let same : count ≡ end = cc in
    let before = back (ap (λ (m : Marks). m.bound) here ∙ ap (λ (k : ℕ). bound_of old k) (sym e)) r in
    let lt = all n (subst (λ (k : ℕ). IsNotOpen old k n) e before) in omega arith)
    (λ (apart : c ≡ cpu → ⊥).
    let kept = has.others c apart in
    was c end n (sym (ap (λ (m : Marks). m.end) kept) ∙ is) (back (ap (λ (m : Marks). m.bound) kept) r))
    (cases_eq c cpu)
  where
    back : bound_of new c ≡ bound_of old c → IsNotOpen new c n → IsNotOpen old c n
    back bounds (by_bound lt) = by_bound (omega arith)
    back bounds (by_parcels k) = by_parcels (subst (λ (ps : List Parcel). IsKnown ps c n) has.parcels k)
    back bounds (by_given_up m) = by_given_up (subst (λ (ps : List Parcel). Misses ps c n) has.given_up m)

-- from the bounds on nothing new is known once one is raised
known_back : (old new : Stream) (cpu bound : ℕ) → HasBound old new cpu bound → (c n : ℕ) → bound_of new c ≤ n
    → IsKnown new.parcels c n → IsKnown old.parcels c n
known_back old new cpu bound raised c n from known =
    let filtered = filtered_from old.parcels (bounds_of new.marks) in
    ⊎_elim
    (λ (there : (r : Record) × Has new.parcels c n r). inl
    (there.0, (filtered.has c n there.0 from).1 (raised.kept.below.has c n there.0 there.1)))
    (λ (m : Misses new.parcels c n). inr ((filtered.misses c n from).1 (raised.kept.below.misses c n m)))
    known

-- a bound that is raised, up to the end
pub raised_within : (old new : Stream) (cpu bound : ℕ) → AreWithinEnds old → HasBound old new cpu bound
    → new.given_up ≡ old.given_up → IsUpToEnd old cpu bound → AreWithinEnds new
raised_within old new cpu bound was raised same up c end n is r = ⊎_elim
    (λ (e : c ≡ cpu).
    let here = ap (λ (k : ℕ). marks_at new.marks k) e ∙ raised.marks in
    let ends : end_of old cpu ≡ Some end = sym (ap (λ (m : Marks). m.end) here) ∙ is in
    let bounds : bound_of new c ≡ bound = ap (λ (m : Marks). m.bound) here in
    let most = up end ends in
    ⊎_elim
    (λ (lt : n < bound_of new c). omega arith)
    (λ (le : bound_of new c ≤ n). was c end n (ap (λ (k : ℕ). end_of old k) e ∙ ends) (back le r))
    (cases_lt n (bound_of new c)))
    (λ (apart : c ≡ cpu → ⊥).
    let kept = raised.others c apart in
    let ends = sym (ap (λ (m : Marks). m.end) kept) ∙ is in
    let bounds : bound_of new c ≡ bound_of old c = ap (λ (m : Marks). m.bound) kept in
    ⊎_elim
    (λ (lt : n < bound_of new c). was c end n ends (by_bound (omega arith)))
    (λ (le : bound_of new c ≤ n). was c end n ends (back le r))
    (cases_lt n (bound_of new c)))
    (cases_eq c cpu)
  where
    back : bound_of new c ≤ n → IsNotOpen new c n → IsNotOpen old c n
    back le (by_bound lt) = absurd (omega arith)
    back le (by_parcels k) = by_parcels (known_back old new cpu bound raised c n le k)
    back le (by_given_up m) = by_given_up (subst (λ (ps : List Parcel). Misses ps c n) same m)

-- more is given up, up to the end
more_within : (s : Stream) (given_up : List Parcel) (cpu bound : ℕ) → AreWithinEnds s
    → ((c n : ℕ) → Misses given_up c n → Misses s.given_up c n ⊎ ((c ≡ cpu) × (n < bound))) → IsUpToEnd s cpu bound
    → AreWithinEnds record s { given_up = given_up }
more_within s given_up cpu bound was more up c end n is (by_bound lt) = was c end n is (by_bound lt)
more_within s given_up cpu bound was more up c end n is (by_parcels k) = was c end n is (by_parcels k)
more_within s given_up cpu bound was more up c end n is (by_given_up m) = ⊎_elim
    (λ (own : Misses s.given_up c n). was c end n is (by_given_up own))
    (λ (one : (c ≡ cpu) × (n < bound)).
    let most = up end (ap (λ (k : ℕ). end_of s k) (sym one.0) ∙ is) in
    let lt = one.1 in omega arith)
    (more c n m)

pub run_within : (s : Stream) (given_up : List Parcel) (cpu first end : ℕ) → AreWithinEnds s
    → GivesUp s.given_up given_up cpu first end → IsUpToEnd s cpu end → AreWithinEnds record s { given_up = given_up }
run_within s given_up cpu first end was gives up = more_within s given_up cpu end was
    (λ c n m. ⊎_elim
    (λ own. inl own)
    (λ (run : IsInRun cpu first end c n). inr (run.cpu_is, run.below))
    ((gives c n).0 m))
    up

-- what is lost below a bound is given up
pub lost_within : (old new : Stream) (given_up : List Parcel) (cpu bound : ℕ) → AreWithinEnds new
    → HasBound old new cpu bound → new.given_up ≡ old.given_up → IsUpToEnd old cpu bound
    → GivesUpBelow old given_up cpu bound → AreWithinEnds record new { given_up = given_up }
lost_within old new given_up cpu bound was raised same up gives = more_within new given_up cpu bound was
    (λ c n m. ⊎_elim
    (λ own. inl (subst (λ (ps : List Parcel). Misses ps c n) (sym same) own))
    (λ (lost : IsLost old cpu bound c n). inr (lost.cpu_is, lost.below))
    ((gives c n).0 m))
    (λ end is. up end (sym (ap (λ (m : Marks). m.end) raised.marks) ∙ is))

-- ---- what is within

-- the bound itself
pub bound_within : (s : Stream) (cpu : ℕ) → AreWithinEnds s → IsUpToEnd s cpu (bound_of s cpu)
bound_within s cpu was end is = ⊎_elim
    (λ (some : 0 < bound_of s cpu).
    let lt = was cpu end (bound_of s cpu - 1) is (by_bound (omega arith)) in omega arith)
    (λ (none : bound_of s cpu ≤ 0). omega arith)
    (cases_lt 0 (bound_of s cpu))

reached : (s : Stream) (cpu n : ℕ) → HasOutcome s cpu n → IsNotOpen s cpu n
reached s cpu n (has_record r h) = by_parcels (inl (r, h.has))
reached s cpu n (is_missing m) = by_parcels (inr m.misses)
reached s cpu n (is_undelivered from u) = by_given_up u.given_up

-- a number up to which all is accounted for
pub accounted_within : (s : Stream) (cpu w : ℕ) → AreWithinEnds s → bound_of s cpu ≤ w
    → ((n : ℕ) → bound_of s cpu ≤ n → n < w → HasOutcome s cpu n) → IsUpToEnd s cpu w
accounted_within s cpu w was from accounted end is =
    let low = bound_within s cpu was end is in
    ⊎_elim
    (λ (lt : end < w).
    let below = was cpu end end is (reached s cpu end (accounted end low lt)) in absurd (omega arith))
    (λ (le : w ≤ end). le)
    (cases_lt end w)

-- ---- what holds of each stream at all times

pub added_standing : (s : Stream) (p : Parcel) (new : List Parcel) → IsStanding s → IsWithinEnd s p
    → (new ≡ s.parcels ++ p ∷ []) ⊎ (new ≡ s.parcels) → IsStanding record s { parcels = new }
added_standing s p new was fits either = record {
  no_record = was.no_record;
  says = was.says;
  within = ⊎_elim
      (λ (is : new ≡ s.parcels ++ p ∷ []).
      subst (λ (ps : List Parcel). AreWithinEnds record s { parcels = ps }) (sym is)
      (added_within s p was.within fits))
      (λ (is : new ≡ s.parcels). subst (λ (ps : List Parcel). AreWithinEnds record s { parcels = ps }) (sym is)
      was.within)
      either;
}

pub ended_standing : (old new : Stream) (cpu count : ℕ) → IsStanding old → HasEnd old new cpu count
    → ((n : ℕ) → IsNotOpen old cpu n → n < count) → AllSaySomething new.marks → IsStanding new
ended_standing old new cpu count was has all says = record {
  says = says;
  no_record = subst HaveNoRecord (sym has.given_up) was.no_record;
  within = ended_within old new cpu count was.within has all;
}

pub raised_standing : (old new : Stream) (cpu bound : ℕ) → IsStanding old → HasBound old new cpu bound
    → new.given_up ≡ old.given_up → IsUpToEnd old cpu bound → AllSaySomething new.marks
    → IsStanding new
raised_standing old new cpu bound was raised same up says = record {
  says = says;
  no_record = subst HaveNoRecord (sym same) was.no_record;
  within = raised_within old new cpu bound was.within raised same up;
}

pub run_standing : (s : Stream) (given_up : List Parcel) (cpu first end : ℕ) → IsStanding s → HaveNoRecord given_up
    → GivesUp s.given_up given_up cpu first end → IsUpToEnd s cpu end → IsStanding record s { given_up = given_up }
run_standing s given_up cpu first end was none gives up =
    record { no_record = none; within = run_within s given_up cpu first end was.within gives up; says = was.says }

pub lost_standing : (old new : Stream) (given_up : List Parcel) (cpu bound : ℕ) → IsStanding new
    → HaveNoRecord given_up → HasBound old new cpu bound → new.given_up ≡ old.given_up → IsUpToEnd old cpu bound
    → GivesUpBelow old given_up cpu bound → IsStanding record new { given_up = given_up }
lost_standing old new given_up cpu bound was none raised same up gives = record {
  no_record = none;
  says = was.says;
  within = lost_within old new given_up cpu bound was.within raised same up gives;
}
