-- Up to which moment a fleet is known, and what was forgotten before it.
use Rattle.std.proofs.Common.{◌≡◌, ◌⊎◌, inl, inr, ⊎_elim, ℕ, ◌+◌, ◌<◌, ◌≤◌, List, [], ◌∷◌, ◌++◌, length, map}
use Rattle.std.proofs.Common.{Bool, not, Result, Ok, Err, OnOk, OnErr, Option, Some, None, IsSome, refl, sym, ap, ◌∙◌}
use Rattle.std.proofs.Common.{subst, arith}
use Rattle.std.specs.Borrow.{Bor}
use Rattle.std.specs.List.{slice_get}
use Rattle.std.specs.List.Sorted.{IsStrictlyIncreasing}
use Rattle.std.proofs.lemmas.Bool.{cases_lt, cases_eq}
use Rattle.std.proofs.lemmas.List.{map-append}
use Rattle.std.proofs.lemmas.Map.Keys.{below_from_sorted, sorted_from_strictly_increasing}
use Rattle.std.proofs.lemmas.Option.{none-some, slice_get_within, get_or_from_slice_get}
use Rattle.trace_model.specs.Parcel.{Parcel}
use Rattle.trace_model.specs.Collection.{Misses}
use Rattle.trace_model.specs.declared.limits.TheConstants.{MAX_CPUS}
use Rattle.trace_model.specs.declared.numbers.Moment.{Moment}
use Rattle.trace_model.proofs.collections.Collections.{same_itself}
use Rattle.trace_model.proofs.collections.Elements.{get_in_either}
use Rattle.collector.specs.Known.{IsTaken, ends_below}
use Rattle.parcel_streams.specs.declared.piece.StreamId.{StreamId}
use Rattle.stream_collector.specs.Marks.{bounds_of}
use Rattle.stream_collector.specs.Stream.{Stream, bound_of, end_of, HasOutcome, has_record, is_missing, is_undelivered}
use Rattle.stream_collector.specs.Frontier.{IsHeldAt, IsCpuThere, by_marks, by_known, by_undelivered, IsNotAfter}
use Rattle.stream_collector.specs.Frontier.{IsOfOne}
use Rattle.stream_collector.specs.Frontier.{IsFrontier, IsForgottenBefore}
use Rattle.stream_collector.proofs.Frontiers.{not_after}
use Rattle.time_merge.proofs.Ordered.{at_mapped}
use Rattle.fleet_collector.specs.Fleet.{known_of, stream_at, or_empty, empty_stream, entry_seen, HasKnownCpus}
use Rattle.fleet_collector.specs.Fleet.{KeepsOthers}
use Rattle.fleet_collector.specs.Frontier.{IsOfSome, AllForgottenBefore, SomeForgottenBefore}
use Rattle.fleet_collector.proofs.Joined.{place_of}
use Rattle.fleet_collector.proofs.Marked.{get_filtered}
use Rattle.fleet_collector.proofs.Telling.{only}

-- ---- nothing

not_there : (cpu : ℕ) → IsCpuThere empty_stream cpu → ⊥
not_there cpu (by_marks says) = ⊎_elim
    (λ (lt : 0 < 0). absurd (omega arith))
    (λ (some : IsSome (end_of empty_stream cpu)). let no : ⊥ = cc in absurd no)
    says
not_there cpu (by_known known) = ⊎_elim
    (λ (taken : IsTaken [] cpu known.0). let h = taken.1 in absurd (none-some h.parcel h.at))
    (λ (m : Misses [] cpu known.0). absurd (none-some m.parcel m.at))
    known.1
not_there cpu (by_undelivered known) = ⊎_elim
    (λ (taken : IsTaken [] cpu known.0). let h = taken.1 in absurd (none-some h.parcel h.at))
    (λ (m : Misses [] cpu known.0). absurd (none-some m.parcel m.at))
    known.1

pub nothing_forgotten : (moment : ℕ) → IsForgottenBefore empty_stream empty_stream moment
nothing_forgotten moment = record {
  cuts = λ cpu. record {
    watermark = 0;
    is_watermark = record {
      is_open = record {
        from = omega arith;
        not_given_up = λ m. absurd (none-some m.parcel m.at);
        unknown = record {
          no_record = λ r h. absurd (none-some h.parcel h.at);
          not_missing = λ m. absurd (none-some m.parcel m.at);
        };
      };
      accounted = λ n from below. absurd (omega arith);
    };
    from = omega arith;
    up_to = omega arith;
    before = λ n r h below. absurd (omega arith);
    stops = λ lt. absurd (omega arith);
  };
  raised = record { rise = λ cpu. omega arith; ends = λ cpu. refl; kept = same_itself [] };
  given_up = refl;
}

-- ---- the frontier

-- of these streams no CPU is held before the moment
abbrev pub AreNotBefore : List (ℕ × Stream) → Option Moment → Type 0
AreNotBefore streams frontier = (k : ℕ) (entry : ℕ × Stream) → slice_get streams k ≡ Some entry
    → (cpu : ℕ) → IsCpuThere entry.1 cpu → IsNotAfter entry.1 frontier cpu

pub none_before : (frontier : Option Moment) → AreNotBefore [] frontier
none_before frontier k entry at = absurd (none-some entry at)

pub one_more_not_before : (before : List (StreamId × Bor Stream)) (item : StreamId × Bor Stream)
    (own other new : Option Moment)
    → ((m : Moment) → own ≡ Some m → (r : Moment) × (new ≡ Some r) × (r.0 ≤ m.0))
    → ((m : Moment) → other ≡ Some m → (r : Moment) × (new ≡ Some r) × (r.0 ≤ m.0))
    → AreNotBefore (map entry_seen before) own → IsFrontier item.1.now other
    → AreNotBefore (map entry_seen (before ++ item ∷ [])) new
one_more_not_before before item own other new low low_other was is k entry at =
    let there : slice_get (map entry_seen before ++ entry_seen item ∷ []) k ≡ Some entry =
    subst (λ (es : List (ℕ × Stream)). slice_get es k ≡ Some entry) (map-append entry_seen before (item ∷ [])) at in
    ⊎_elim
    (λ (front : (j : ℕ) × (slice_get (map entry_seen before) j ≡ Some entry)).
    λ (cpu : ℕ) (c : IsCpuThere entry.1 cpu). not_after entry.1 own new cpu low (was front.0 entry front.1 cpu c))
    (λ (back : (j : ℕ) × (slice_get (entry_seen item ∷ []) j ≡ Some entry)).
    subst (λ (e : ℕ × Stream). (cpu : ℕ) → IsCpuThere e.1 cpu → IsNotAfter e.1 new cpu)
    (only (entry_seen item) back.0 entry back.1)
    (λ (cpu : ℕ) (c : IsCpuThere item.1.now cpu). not_after item.1.now other new cpu low_other (is.least cpu c)))
    (get_in_either (map entry_seen before) (entry_seen item ∷ []) k entry there)

of_one_stream : (fleet : List (ℕ × Stream)) (id : ℕ) (known : Stream) (f : Option Moment) → stream_at fleet id ≡ known
    → IsOfOne known f → IsOfSome fleet f
of_one_stream fleet id known None is h = tt
of_one_stream fleet id known (Some m) is h = (
  id,
  h.0,
  subst (λ (s : Stream). IsCpuThere s h.0) (sym is) h.1,
  subst (λ (s : Stream). IsHeldAt s h.0 m.0) (sym is) h.2,
)

pub one_more_of_some : (fleet : List (ℕ × Stream)) (id : ℕ) (known : Stream) (own other new : Option Moment)
    → (new ≡ own) ⊎ (new ≡ other) → IsOfSome fleet own → stream_at fleet id ≡ known → IsFrontier known other
    → IsOfSome fleet new
one_more_of_some fleet id known own other new either was is f = ⊎_elim
    (λ (e : new ≡ own). subst (IsOfSome fleet) (sym e) was)
    (λ (e : new ≡ other). subst (IsOfSome fleet) (sym e) (of_one_stream fleet id known other is f.of_one))
    either

pub least_of_all : (fleet : List (ℕ × Stream)) (frontier : Option Moment) → AreNotBefore fleet frontier
    → (id cpu : ℕ) → IsCpuThere (stream_at fleet id) cpu → IsNotAfter (stream_at fleet id) frontier cpu
least_of_all fleet frontier all id cpu there = at (known_of fleet id) refl there
  where
    at : (o : Option Stream) → known_of fleet id ≡ o → IsCpuThere (or_empty o) cpu
        → IsNotAfter (or_empty o) frontier cpu
    at None e c = absurd (not_there cpu c)
    at (Some known) e c = let place = place_of fleet id known e in all place.0 (id, known) place.1 cpu c

-- ---- forgetting, stream by stream

-- the first streams have forgotten, and those from the next one on are as they were
pub record IsForgottenUpTo (ids : List ℕ) (first now : List (ℕ × Stream)) (moment index : ℕ) : Type 0 where
  pub done : (k id : ℕ) → k < index → slice_get ids k ≡ Some id
      → IsForgottenBefore (stream_at first id) (stream_at now id) moment
  pub waiting : (next id : ℕ) → slice_get ids index ≡ Some next → next ≤ id → stream_at now id ≡ stream_at first id
  pub some : SomeForgottenBefore first now moment

pub forget_begins : (ids : List ℕ) (first : List (ℕ × Stream)) (moment : ℕ) → IsForgottenUpTo ids first first moment 0
forget_begins ids first moment = record {
  done = λ k id below at. absurd (omega arith);
  waiting = λ next id at up. refl;
  some = λ id. inl refl;
}

rises : (ids : List ℕ) → IsStrictlyIncreasing ids → (j k a b : ℕ) → j < k → slice_get ids j ≡ Some a
    → slice_get ids k ≡ Some b → a < b
rises ids rising j k a b lt at next =
    let less = below_from_sorted ids j k 0 (sorted_from_strictly_increasing ids rising) lt
    (slice_get_within ids k b next)
    in
    let x = get_or_from_slice_get ids j a 0 at in
    let y = get_or_from_slice_get ids k b 0 next in
    omega arith

pub forget_goes_on : (ids : List ℕ) (first now new : List (ℕ × Stream)) (moment index id : ℕ) → IsStrictlyIncreasing ids
    → slice_get ids index ≡ Some id → IsForgottenUpTo ids first now moment index
    → IsForgottenBefore (stream_at now id) (stream_at new id) moment → KeepsOthers now new id
    → IsForgottenUpTo ids first new moment (index + 1)
forget_goes_on ids first now new moment index id rising at was here others =
    let stays : (q : ℕ) → (q ≡ id → ⊥) → stream_at new q ≡ stream_at now q = λ q apart. ap or_empty (others q apart) in
    let whole : IsForgottenBefore (stream_at first id) (stream_at new id) moment =
    subst (λ (s : Stream). IsForgottenBefore s (stream_at new id) moment)
    (was.waiting id id at (let le : id ≤ id = omega arith in le)) here in
    record {
      done = λ k q below there. ⊎_elim
          (λ (lt : k < index).
          let less = rises ids rising k index q id lt there at in
          let apart : q ≡ id → ⊥ = λ e. omega arith in
          subst (λ (s : Stream). IsForgottenBefore (stream_at first q) s moment) (sym (stays q apart))
          (was.done k q lt there))
          (λ (le : index ≤ k).
          let e : k ≡ index = omega arith in
          let same : Some id ≡ Some q = sym at ∙ ap (λ (x : ℕ). slice_get ids x) (sym e) ∙ there in
          let is : id ≡ q = cc in
          subst (λ (x : ℕ). IsForgottenBefore (stream_at first x) (stream_at new x) moment) is whole)
          (cases_lt k index);
      waiting = λ next q there up.
          let less = rises ids rising index (index + 1) id next (omega arith) at there in
          let apart : q ≡ id → ⊥ = λ e. omega arith in
          stays q apart ∙ was.waiting id q at (omega arith);
      some = λ q. ⊎_elim
          (λ (e : q ≡ id). inr (subst (λ (x : ℕ). IsForgottenBefore (stream_at first x) (stream_at new x) moment)
          (sym e)
          whole))
          (λ (apart : q ≡ id → ⊥). ⊎_elim
          (λ (same : stream_at now q ≡ stream_at first q). inl (stays q apart ∙ same))
          (λ (gone : IsForgottenBefore (stream_at first q) (stream_at now q) moment). inr
          (subst (λ (s : Stream). IsForgottenBefore (stream_at first q) s moment) (sym (stays q apart)) gone))
          (was.some q))
          (cases_eq q id);
    }

pub forget_ends : (ids : List ℕ) (first now : List (ℕ × Stream)) (moment index : ℕ)
    → ids ≡ map (λ (e : ℕ × Stream). e.0) first → length ids ≤ index
    → IsForgottenUpTo ids first now moment index → AllForgottenBefore first now moment
forget_ends ids first now moment index is all was id = at (known_of first id) refl
  where
    at : (o : Option Stream) → known_of first id ≡ o
        → IsForgottenBefore (stream_at first id) (stream_at now id) moment
    at (Some known) e =
        let place = place_of first id known e in
        let there : slice_get ids place.0 ≡ Some id = subst (λ (xs : List ℕ). slice_get xs place.0 ≡ Some id) (sym is)
        (at_mapped (λ (x : ℕ × Stream). x.0) first place.0 (id, known) place.1) in
        let within = slice_get_within ids place.0 id there in
        was.done place.0 id (omega arith) there
    at None e = ⊎_elim
        (λ (same : stream_at now id ≡ stream_at first id).
        let none : stream_at first id ≡ empty_stream = ap or_empty e in
        subst (λ (s : Stream). IsForgottenBefore (stream_at first id) s moment) (sym same)
        (subst (λ (s : Stream). IsForgottenBefore s s moment) (sym none) (nothing_forgotten moment)))
        (λ (gone : IsForgottenBefore (stream_at first id) (stream_at now id) moment). gone)
        (was.some id)

-- ---- the CPUs of a stream that has forgotten

accounted_cpu : (s : Stream) (cpu n : ℕ) → HasKnownCpus s → HasOutcome s cpu n → cpu < MAX_CPUS
accounted_cpu s cpu n old (has_record r h) = old.known cpu n (inl (r, h.has))
accounted_cpu s cpu n old (is_missing m) = old.known cpu n (inr m.misses)
accounted_cpu s cpu n old (is_undelivered from u) = old.given_up cpu n u.given_up

pub forgotten_cpus : (before after : Stream) (moment : ℕ) → IsForgottenBefore before after moment → HasKnownCpus before
    → HasKnownCpus after
forgotten_cpus before after moment f old =
    let test : Parcel → Bool = λ p. not (ends_below (bounds_of after.marks) p) in
    record {
      known = λ cpu n known. ⊎_elim
          (λ (taken : IsTaken after.parcels cpu n).
          let kept = f.raised.kept.below.has cpu n taken.0 taken.1 in
          let found = get_filtered test before.parcels kept.index kept.parcel kept.at in
          old.known cpu n
          (inl (taken.0, record { index = found.0; parcel = kept.parcel; at = found.1; pair = kept.pair })))
          (λ (m : Misses after.parcels cpu n).
          let kept = f.raised.kept.below.misses cpu n m in
          let found = get_filtered test before.parcels kept.index kept.parcel kept.at in
          old.known cpu n
          (inr record { index = found.0; parcel = kept.parcel; at = found.1; missing = kept.missing }))
          known;
      given_up = λ cpu n m. old.given_up cpu n (subst (λ (ps : List Parcel). Misses ps cpu n) f.given_up m);
      marked = λ cpu says. ⊎_elim
          (λ (bound : 0 < bound_of after cpu).
          let c = f.cuts cpu in
          ⊎_elim
          (λ (lt : bound_of before cpu < bound_of after cpu).
          let up = c.up_to in
          accounted_cpu before cpu (bound_of before cpu) old
          (c.is_watermark.accounted (bound_of before cpu) (omega arith) (omega arith)))
          (λ (le : bound_of after cpu ≤ bound_of before cpu). old.marked cpu (inl (omega arith)))
          (cases_lt (bound_of before cpu) (bound_of after cpu)))
          (λ (end : IsSome (end_of after cpu)).
          old.marked cpu (inr (subst (λ (o : Option ℕ). IsSome o) (f.raised.ends cpu) end)))
          says;
    }

pub cpus_forgotten : {T E : Type 0} (result : Result T E) (before after : Stream) (moment : ℕ)
    → OnOk result (IsForgottenBefore before after moment) → OnErr result (after ≡ before) → HasKnownCpus before
    → HasKnownCpus after
cpus_forgotten (Ok t) before after moment f same old = forgotten_cpus before after moment f old
cpus_forgotten (Err e) before after moment f same old = subst HasKnownCpus (sym same) old
