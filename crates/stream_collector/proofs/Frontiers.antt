-- Up to which moment all is known, and what is before it.
use Rattle.std.proofs.Common.{◌≡◌, ◌⊎◌, ℕ, zero, suc, ◌<◌, ◌≤◌, List, [], ◌∷◌, ◌++◌, Option, Some, None}
use Rattle.std.proofs.Common.{IfSome, IfNone, ⊎_elim}
use Rattle.std.proofs.Common.{inl, inr, refl, sym, ap, ◌∙◌, subst, arith}
use Rattle.std.specs.List.{slice_get}
use Rattle.std.proofs.lemmas.Bool.{cases_lt, cases_eq}
use Rattle.std.proofs.lemmas.Option.{none-some}
use Rattle.trace_model.specs.Record.{Record}
use Rattle.trace_model.specs.Parcel.{Parcel}
use Rattle.trace_model.specs.Collection.{Has, Misses, Agree, IsSame}
use Rattle.trace_model.specs.declared.numbers.Moment.{Moment}
use Rattle.trace_model.proofs.collections.Elements.{some_is}
use Rattle.trace_model.proofs.collections.Joined.{joined_left}
use Rattle.trace_model.proofs.collections.Collections.{below_below}
use Rattle.collector.specs.Shown.{IsUnknown}
use Rattle.collector.specs.Known.{IsKnown, IsCpuKnown, without_ended}
use Rattle.collector.specs.Listed.{AreListed, AreRecordsFrom, HasFrom}
use Rattle.collector.proofs.Known.{known_above}
use Rattle.stream_collector.specs.declared.marks.Marks.{Marks}
use Rattle.stream_collector.specs.Marks.{marks_at, bounds_of, SaySomething, AllSaySomething}
use Rattle.stream_collector.specs.Stream.{Stream, bound_of, end_of, HasRecord, HaveNoRecord}
use Rattle.stream_collector.specs.Marking.{IsNotOpen, by_bound, by_parcels, by_given_up, AreWithinEnds, IsStanding}
use Rattle.stream_collector.specs.Forgetting.{AreRaised}
use Rattle.stream_collector.specs.Frontier.{IsWatermark, IsComplete, IsLastMoment, by_last, by_none}
use Rattle.stream_collector.specs.Frontier.{IsHeldAt, IsCpuThere, by_marks, by_known, by_undelivered}
use Rattle.stream_collector.specs.Frontier.{IsNotAfter, IsOfOne}
use Rattle.stream_collector.specs.Frontier.{IsFrontier, IsCut, HasCutMarks}
use Rattle.stream_collector.specs.Frontier.{NeverFall}
use Rattle.stream_collector.proofs.Standing.{known_or_not, missed_or_not}
use Rattle.stream_collector.proofs.StreamLaws.{not_open}
use Rattle.stream_collector.proofs.WithinEnds.{accounted_within}
use Rattle.stream_collector.proofs.Merging.{without_below}

-- ---- the least moment

pub not_after : (s : Stream) (old new : Option Moment) (cpu : ℕ)
    → ((m : Moment) → old ≡ Some m → (r : Moment) × (new ≡ Some r) × (r.0 ≤ m.0))
    → IsNotAfter s old cpu → IsNotAfter s new cpu
not_after s None None cpu lower complete = complete
not_after s None (Some r) cpu lower complete = inl complete
not_after s (Some m) None cpu lower either = let there = lower m refl in absurd (none-some there.0 there.1)
not_after s (Some m) (Some r) cpu lower either = ⊎_elim
    (λ (complete : IsComplete s cpu). inl complete)
    (λ (held : (moment : ℕ) × IsHeldAt s cpu moment × (m.0 ≤ moment)).
    let there = lower m refl in
    let same : r ≡ there.0 = some_is r there.0 there.1 in
    let is = ap (λ (x : Moment). x.0) same in
    let le = there.2 in
    let up = held.2 in
    inr (held.0, held.1, omega arith))
    either

pub one_of_either : (s : Stream) (own other new : Option Moment) → (new ≡ own) ⊎ (new ≡ other) → IsOfOne s own
    → IsOfOne s other → IsOfOne s new
one_of_either s own other new either a b = ⊎_elim
    (λ (e : new ≡ own). subst (IsOfOne s) (sym e) a)
    (λ (e : new ≡ other). subst (IsOfOne s) (sym e) b)
    either

-- at what one CPU is held
pub held_there : (s : Stream) (cpu : ℕ) (held : Option Moment) → IsCpuThere s cpu
    → IfNone held (IsComplete s cpu) → IfSome held (λ moment. IsHeldAt s cpu moment.0) → IsOfOne s held
held_there s cpu None there complete at = tt
held_there s cpu (Some m) there complete at = (cpu, there, at)

pub held_not_after : (s : Stream) (cpu : ℕ) (held : Option Moment) → IfNone held (IsComplete s cpu)
    → IfSome held (λ moment. IsHeldAt s cpu moment.0) → IsNotAfter s held cpu
held_not_after s cpu None complete at = complete
held_not_after s cpu (Some m) complete at = inr (m.0, at, omega arith)

pub least_everywhere : (s : Stream) (least : Option Moment)
    → ((cpu : ℕ) → SaySomething (marks_at s.marks cpu) → IsNotAfter s least cpu)
    → ((cpu : ℕ) → IsCpuKnown s.parcels cpu → IsNotAfter s least cpu)
    → ((cpu : ℕ) → IsCpuKnown s.given_up cpu → IsNotAfter s least cpu)
    → (cpu : ℕ) → IsCpuThere s cpu → IsNotAfter s least cpu
least_everywhere s least marks parcels given_up cpu (by_marks says) = marks cpu says
least_everywhere s least marks parcels given_up cpu (by_known known) = parcels cpu known
least_everywhere s least marks parcels given_up cpu (by_undelivered known) = given_up cpu known

-- ---- the first record

above_first : {X : Type 0} (x : ℕ × X) (list : List (ℕ × X))
    → ((k : ℕ) (a b : ℕ × X) → slice_get (x ∷ list) k ≡ Some a → slice_get (x ∷ list) (suc k) ≡ Some b → a.0 < b.0)
    → (k : ℕ) (a : ℕ × X) → slice_get list k ≡ Some a → x.0 < a.0
above_first x [] rises k a at = absurd (none-some a at)
above_first x (y ∷ list) rises zero a at = rises 0 x a refl at
above_first x (y ∷ list) rises (suc k) a at =
    let one = rises 0 x y refl refl in
    let more = above_first y list (λ j b c p q. rises (suc j) b c p q) k a at in
    omega arith

not_before_first : {X : Type 0} (holds : ℕ → X → Type 0) (x : ℕ × X) (list : List (ℕ × X)) → AreListed holds (x ∷ list)
    → (n : ℕ) (y : X) → holds n y → x.0 ≤ n
not_before_first {X} holds x list l n y h = let found = l.whole n y h in at_index found.0 found.1
  where
    at_index : (k : ℕ) → slice_get (x ∷ list) k ≡ Some (n, y) → x.0 ≤ n
    at_index zero at = let is = ap (λ (q : ℕ × X). q.0) (some_is x (n, y) at) in omega arith
    at_index (suc k) at = let lt = above_first x list l.rising k (n, y) at in omega arith

module _ (ps : List Parcel) (cpu from : ℕ) where
  pub first_has : (list rest : List (ℕ × Record)) (x : ℕ × Record) → AreRecordsFrom ps cpu from list → list ≡ x ∷ rest
      → HasFrom ps cpu from x.0 x.1
  first_has list rest x l e =
      let moved = subst (AreListed (HasFrom ps cpu from)) e l in moved.of_them 0 x refl

  pub first_is_least : (list rest : List (ℕ × Record)) (x : ℕ × Record) → AreRecordsFrom ps cpu from list
      → list ≡ x ∷ rest → (n : ℕ) (r : Record) → from ≤ n → Has ps cpu n r → x.0 ≤ n
  first_is_least list rest x l e n r up h =
      not_before_first (HasFrom ps cpu from) x rest (subst (AreListed (HasFrom ps cpu from)) e l) n r
      record { has = h; up = up }

-- ---- a cut

-- records that are left rise, and those that aren't are before the moment
pub record IsCutWalk (s : Stream) (cpu moment : ℕ) (left : List (ℕ × Record)) : Type 0 where
  pub rising : (k : ℕ) (a b : ℕ × Record) → slice_get left k ≡ Some a → slice_get left (suc k) ≡ Some b → a.0 < b.0
  pub of_them : (k : ℕ) (a : ℕ × Record) → slice_get left k ≡ Some a → HasRecord s cpu a.0 a.1
  pub passed : (n : ℕ) (r : Record) → HasRecord s cpu n r
      → ((k : ℕ) × (slice_get left k ≡ Some (n, r))) ⊎ (r.moment < moment)

pub walk_begins : (s : Stream) (cpu moment : ℕ) (list : List (ℕ × Record))
    → AreRecordsFrom s.parcels cpu (bound_of s cpu) list → IsCutWalk s cpu moment list
walk_begins s cpu moment list l = record {
  rising = l.rising;
  of_them = λ k a at. (let h = l.of_them k a at in record { from = h.up; has = h.has });
  passed = λ n r h. inl (l.whole n r record { has = h.has; up = h.from });
}

module _ (s : Stream) (cpu moment : ℕ) where
  walk_at : (left rest : List (ℕ × Record)) (x : ℕ × Record) → left ≡ x ∷ rest → IsCutWalk s cpu moment left
      → IsCutWalk s cpu moment (x ∷ rest)
  walk_at left rest x e walk = subst (IsCutWalk s cpu moment) e walk

  -- what is before the next one is before the moment
  pub before_next : (left rest : List (ℕ × Record)) (x : ℕ × Record) → left ≡ x ∷ rest → IsCutWalk s cpu moment left
      → (n : ℕ) (r : Record) → HasRecord s cpu n r → n < x.0 → r.moment < moment
  before_next left rest x e walk n r h lt =
      let here = walk_at left rest x e walk in
      ⊎_elim
      (λ (there : (k : ℕ) × (slice_get (x ∷ rest) k ≡ Some (n, r))). at_index here there.0 there.1)
      (λ (before : r.moment < moment). before)
      (here.passed n r h)
    where
      at_index : IsCutWalk s cpu moment (x ∷ rest) → (k : ℕ) → slice_get (x ∷ rest) k ≡ Some (n, r)
          → r.moment < moment
      at_index here zero at = let is = ap (λ (q : ℕ × Record). q.0) (some_is x (n, r) at) in absurd (omega arith)
      at_index here (suc k) at = let up = above_first x rest here.rising k (n, r) at in absurd (omega arith)

  pub next_has : (left rest : List (ℕ × Record)) (x : ℕ × Record) → left ≡ x ∷ rest → IsCutWalk s cpu moment left
      → HasRecord s cpu x.0 x.1
  next_has left rest x e walk = (walk_at left rest x e walk).of_them 0 x refl

  -- one that is before the moment is passed
  pub next_passed : (left rest : List (ℕ × Record)) (x : ℕ × Record) → left ≡ x ∷ rest → IsCutWalk s cpu moment left
      → x.1.moment < moment → IsCutWalk s cpu moment rest
  next_passed left rest x e walk before =
      let here = walk_at left rest x e walk in
      record {
        rising = λ k a b at next. here.rising (suc k) a b at next;
        of_them = λ k a at. here.of_them (suc k) a at;
        passed = λ n r h. ⊎_elim
            (λ (there : (k : ℕ) × (slice_get (x ∷ rest) k ≡ Some (n, r))). at_index n r there.0 there.1)
            (λ (lt : r.moment < moment). inr lt)
            (here.passed n r h);
      }
    where
      at_index : (n : ℕ) (r : Record) (k : ℕ) → slice_get (x ∷ rest) k ≡ Some (n, r)
          → ((j : ℕ) × (slice_get rest j ≡ Some (n, r))) ⊎ (r.moment < moment)
      at_index n r zero at =
          let is = ap (λ (q : ℕ × Record). q.1.moment) (some_is x (n, r) at) in inr (omega arith)
      at_index n r (suc k) at = inl (k, at)

  pub all_passed : (left : List (ℕ × Record)) → left ≡ [] → IsCutWalk s cpu moment left
      → (n : ℕ) (r : Record) → HasRecord s cpu n r → r.moment < moment
  all_passed left e walk n r h = ⊎_elim
      (λ (there : (k : ℕ) × (slice_get left k ≡ Some (n, r))). absurd (none-some (n, r)
      (subst (λ (xs : List (ℕ × Record)). slice_get xs there.0 ≡ Some (n, r)) e there.1)))
      (λ (before : r.moment < moment). before)
      (walk.passed n r h)

-- ---- all cuts

-- a CPU of which nothing is known from its bound on is cut at it
pub cut_at_bound : (s : Stream) (cpu moment : ℕ) → IsUnknown s.parcels cpu (bound_of s cpu)
    → (Misses s.given_up cpu (bound_of s cpu) → ⊥) → IsCut s cpu moment (bound_of s cpu)
cut_at_bound s cpu moment unknown not = record {
  watermark = bound_of s cpu;
  is_watermark = record {
    is_open = record { from = omega arith; not_given_up = not; unknown = unknown };
    accounted = λ n from below. absurd (omega arith);
  };
  from = omega arith;
  up_to = omega arith;
  before = λ n r h below. (let from = h.from in absurd (omega arith));
  stops = λ below. absurd (omega arith);
}

pub cut_marks_same : (s : Stream) (moment : ℕ) (old new : List (ℕ × Marks)) (cpu : ℕ)
    → marks_at new cpu ≡ marks_at old cpu → HasCutMarks s moment old cpu → HasCutMarks s moment new cpu
cut_marks_same s moment old new cpu e h = (
  subst (λ (m : Marks). IsCut s cpu moment m.bound) (sym e) h.0,
  ap (λ (m : Marks). m.end) e ∙ h.1,
)

pub cut_everywhere : (s : Stream) (moment : ℕ) (marks : List (ℕ × Marks))
    → ((cpu : ℕ) → HasCutMarks s moment marks cpu ⊎ (marks_at marks cpu ≡ marks_at s.marks cpu))
    → ((cpu : ℕ) → IsCpuKnown s.parcels cpu → HasCutMarks s moment marks cpu)
    → ((cpu : ℕ) → IsCpuKnown s.given_up cpu → HasCutMarks s moment marks cpu)
    → (cpu : ℕ) → HasCutMarks s moment marks cpu
cut_everywhere s moment marks so_far known given_up cpu = ⊎_elim
    (λ (done : HasCutMarks s moment marks cpu). done)
    (λ (same : marks_at marks cpu ≡ marks_at s.marks cpu). ⊎_elim
    (λ (unknown : IsUnknown s.parcels cpu (bound_of s cpu)). ⊎_elim
    (λ (m : Misses s.given_up cpu (bound_of s cpu)). given_up cpu (bound_of s cpu, inr m))
    (λ (not : Misses s.given_up cpu (bound_of s cpu) → ⊥). (
      subst (λ (m : Marks). IsCut s cpu moment m.bound) (sym same) (cut_at_bound s cpu moment unknown not),
      ap (λ (m : Marks). m.end) same,
    ))
    (missed_or_not s.given_up cpu (bound_of s cpu)))
    (λ (there : IsKnown s.parcels cpu (bound_of s cpu)). known cpu (bound_of s cpu, there))
    (known_or_not s.parcels cpu (bound_of s cpu)))
    (so_far cpu)

pub cuts_raise : (old new : Stream) (moment : ℕ) → ((cpu : ℕ) → HasCutMarks old moment new.marks cpu)
    → IsSame new.parcels (without_ended (bounds_of new.marks) old.parcels) → AreRaised old new
cuts_raise old new moment cuts kept =
    record { rise = λ cpu. (cuts cpu).0.from; ends = λ cpu. (cuts cpu).1; kept = kept }

-- numbers that are reached stay below the ends
pub cuts_within : (old new : Stream) (moment : ℕ) → AreWithinEnds old
    → ((cpu : ℕ) → HasCutMarks old moment new.marks cpu)
    → IsSame new.parcels (without_ended (bounds_of new.marks) old.parcels) → new.given_up ≡ old.given_up
    → AreWithinEnds new
cuts_within old new moment was cuts kept same cpu end n is r = back r
  where
    is_old : end_of old cpu ≡ Some end
    is_old = sym (cuts cpu).1 ∙ is

    back : IsNotOpen new cpu n → n < end
    back (by_bound lt) =
        let cut = (cuts cpu).0 in
        let up = cut.up_to in
        let low = cut.is_watermark.is_open.from in
        let most = accounted_within old cpu cut.watermark was low cut.is_watermark.accounted end is_old in
        omega arith
    back (by_parcels k) = was cpu end n is_old (by_parcels (known_above new.parcels old.parcels cpu n
        (below_below new.parcels (without_ended (bounds_of new.marks) old.parcels) old.parcels kept.below
        (without_below (bounds_of new.marks) old.parcels)) k))
    back (by_given_up m) =
        was cpu end n is_old (by_given_up (subst (λ (ps : List Parcel). Misses ps cpu n) same m))

pub cuts_standing : (old new : Stream) (moment : ℕ) → IsStanding old
    → ((cpu : ℕ) → HasCutMarks old moment new.marks cpu)
    → IsSame new.parcels (without_ended (bounds_of new.marks) old.parcels) → new.given_up ≡ old.given_up
    → AllSaySomething new.marks → IsStanding new
cuts_standing old new moment was cuts kept same says = record {
  no_record = subst HaveNoRecord (sym same) was.no_record;
  within = cuts_within old new moment was.within cuts kept same;
  says = says;
}

-- ---- what comes later

one_watermark : (s : Stream) (cpu v w : ℕ) → IsWatermark s cpu v → IsWatermark s cpu w → v < w → ⊥
one_watermark s cpu v w a b lt = not_open s cpu v (b.accounted v a.is_open.from lt) a.is_open

pub same_watermark : (s : Stream) (cpu v w : ℕ) → IsWatermark s cpu v → IsWatermark s cpu w → v ≡ w
same_watermark s cpu v w a b = ⊎_elim
    (λ (lt : v < w). absurd (one_watermark s cpu v w a b lt))
    (λ (le : w ≤ v). ⊎_elim
    (λ (lt : w < v). absurd (one_watermark s cpu w v b a lt))
    (λ (same : v ≤ w). omega arith)
    (cases_lt w v))
    (cases_lt v w)

-- at or after a moment that isn't after that at which the CPU is held
pub later_not_before : (s : Stream) (later : List Parcel) (frontier : Moment) (cpu cut : ℕ)
    → IsNotAfter s (Some frontier) cpu → IsCut s cpu frontier.0 cut → Agree (s.parcels ++ later)
    → AreWithinEnds record s { parcels = s.parcels ++ later } → NeverFall (s.parcels ++ later) cpu
    → (n : ℕ) (r : Record) → cut ≤ n → Has (s.parcels ++ later) cpu n r → frontier.0 ≤ r.moment
later_not_before s later frontier cpu cut is c agree within rises n r from h = ⊎_elim
    (λ (stopped : cut < c.watermark).
    let next = c.stops stopped in
    let own = (joined_left s.parcels later).has cpu cut next.0 next.1.has in
    let up = next.2 in
    ⊎_elim
    (λ (e : n ≡ cut).
    let same : next.0 ≡ r = agree.one_record cpu cut next.0 r own
    (subst (λ (k : ℕ). Has (s.parcels ++ later) cpu k r) e h)
    in
    subst (λ (q : Record). frontier.0 ≤ q.moment) same up)
    (λ (apart : n ≡ cut → ⊥). let rise = rises cut n next.0 r own h (omega arith) in omega arith)
    (cases_eq n cut))
    (λ (whole : c.watermark ≤ cut). ⊎_elim
    (λ (complete : IsComplete s cpu).
    let same = same_watermark s cpu complete.end c.watermark complete.is_watermark c.is_watermark in
    let below = within cpu complete.end n complete.end_is (by_parcels (inl (r, h))) in
    absurd (omega arith))
    (λ (held : (moment : ℕ) × IsHeldAt s cpu moment × (frontier.0 ≤ moment)).
    let same = same_watermark s cpu held.1.watermark c.watermark held.1.is_watermark c.is_watermark in
    let low = held.2 in
    at_last held.0 (subst (λ (w : ℕ). IsLastMoment s cpu w held.0) same held.1.last) low whole)
    is)
    (cases_lt cut c.watermark)
  where
    at_last : (moment : ℕ) → IsLastMoment s cpu c.watermark moment → frontier.0 ≤ moment → c.watermark ≤ cut
        → frontier.0 ≤ r.moment
    at_last moment (by_last k q last e) low whole =
        let below = last.below in
        let before = c.before k q last.has (omega arith) in
        absurd (omega arith)
    at_last moment (by_none none e) low whole = omega arith

pub later_after : (s : Stream) (later : List Parcel) (frontier : Moment) (cpu cut : ℕ) → IsFrontier s (Some frontier)
    → IsCpuThere s cpu → IsCut s cpu frontier.0 cut → Agree (s.parcels ++ later)
    → AreWithinEnds record s { parcels = s.parcels ++ later } → NeverFall (s.parcels ++ later) cpu
    → (n : ℕ) (r : Record) → cut ≤ n → Has (s.parcels ++ later) cpu n r → frontier.0 ≤ r.moment
later_after s later frontier cpu cut is there =
    later_not_before s later frontier cpu cut (is.least cpu there)
