-- The CPUs of a stream that was changed.
use Rattle.std.proofs.Common.{◌≡◌, ◌⊎◌, inl, inr, ⊎_elim, ℕ, zero, suc, ◌<◌, Bool, true, false, cond, not, List, []}
use Rattle.std.proofs.Common.{◌∷◌}
use Rattle.std.proofs.Common.{filter, Some, Result, Ok, Err, OnErr, refl, sym, subst}
use Rattle.std.specs.List.{slice_get}
use Rattle.std.proofs.lemmas.Bool.{cases_eq}
use Rattle.std.proofs.lemmas.Option.{none-some}
use Rattle.trace_model.specs.Parcel.{Parcel}
use Rattle.trace_model.specs.Collection.{Misses}
use Rattle.trace_model.specs.declared.limits.TheConstants.{MAX_CPUS}
use Rattle.collector.specs.Known.{IsKnown, IsTaken, ends_below}
use Rattle.stream_collector.specs.Marks.{marks_at, bounds_of, SaySomething}
use Rattle.stream_collector.specs.Stream.{Stream}
use Rattle.stream_collector.specs.GivenUp.{GivesUp, IsInRun}
use Rattle.stream_collector.specs.Marking.{HasEnd}
use Rattle.stream_collector.specs.Forgetting.{HasBound, GivesUpBelow, IsLost}
use Rattle.stream_collector.specs.declared.marks.Marks.{Marks}
use Rattle.stream_collector.specs.declared.added.Marked.{Marked}
use Rattle.stream_collector.specs.declared.added.Marked.TheVariants.{New, Known}
use Rattle.fleet_collector.specs.Fleet.{HasKnownCpus}

-- what is new is of this CPU
pub record IsNewOf (before after : Stream) (cpu : ℕ) : Type 0 where
  pub known : (c n : ℕ) → IsKnown after.parcels c n → IsKnown before.parcels c n
  pub given_up : (c n : ℕ) → Misses after.given_up c n → Misses before.given_up c n ⊎ (c ≡ cpu)
  pub others : (c : ℕ) → (c ≡ cpu → ⊥) → marks_at after.marks c ≡ marks_at before.marks c

new_cpus : (before after : Stream) (cpu : ℕ) → cpu < MAX_CPUS → IsNewOf before after cpu → HasKnownCpus before
    → HasKnownCpus after
new_cpus before after cpu few new old = record {
  known = λ c n known. old.known c n (new.known c n known);
  given_up = λ c n m. ⊎_elim
      (λ (was : Misses before.given_up c n). old.given_up c n was)
      (λ (is : c ≡ cpu). subst (λ (k : ℕ). k < MAX_CPUS) (sym is) few)
      (new.given_up c n m);
  marked = λ c says. ⊎_elim
      (λ (is : c ≡ cpu). subst (λ (k : ℕ). k < MAX_CPUS) (sym is) few)
      (λ (apart : c ≡ cpu → ⊥). old.marked c (subst SaySomething (new.others c apart) says))
      (cases_eq c cpu);
}

pub cpus_changed : {E : Type 0} (result : Result Marked E) (before after : Stream) (cpu : ℕ) → cpu < MAX_CPUS
    → (result ≡ Ok New → IsNewOf before after cpu) → (result ≡ Ok Known → after ≡ before)
    → OnErr result (after ≡ before) → HasKnownCpus before → HasKnownCpus after
cpus_changed (Ok New) before after cpu few new same refused old = new_cpus before after cpu few (new refl) old
cpus_changed (Ok Known) before after cpu few new same refused old = subst HasKnownCpus (sym (same refl)) old
cpus_changed (Err e) before after cpu few new same refused old = subst HasKnownCpus (sym refused) old

-- an end
pub end_new : (before after : Stream) (cpu end : ℕ) → HasEnd before after cpu end → IsNewOf before after cpu
end_new before after cpu end e = record {
  known = λ c n known. subst (λ (ps : List Parcel). IsKnown ps c n) e.parcels known;
  given_up = λ c n m. inl (subst (λ (ps : List Parcel). Misses ps c n) e.given_up m);
  others = e.others;
}

-- numbers that are given up
pub run_new : (before after : Stream) (cpu first end : ℕ) → after.parcels ≡ before.parcels → after.marks ≡ before.marks
    → GivesUp before.given_up after.given_up cpu first end → IsNewOf before after cpu
run_new before after cpu first end parcels marks gives = record {
  known = λ c n known. subst (λ (ps : List Parcel). IsKnown ps c n) parcels known;
  given_up = λ c n m. ⊎_elim
      (λ (was : Misses before.given_up c n). inl was)
      (λ (run : IsInRun cpu first end c n). inr run.cpu_is)
      ((gives c n).0 m);
  others = λ c apart. subst (λ (ms : List (ℕ × Marks)). marks_at ms c ≡ marks_at before.marks c) (sym marks) refl;
}

-- a bound
pub get_filtered : {X : Type 0} (test : X → Bool) (xs : List X) (k : ℕ) (x : X) → slice_get (filter test xs) k ≡ Some x
    → (j : ℕ) × (slice_get xs j ≡ Some x)
get_filtered test [] k x at = absurd (none-some x at)
get_filtered {X} test (y ∷ xs) k x at = one (test y) k (λ j there. get_filtered test xs j x there) at
  where
    one : (b : Bool) (k : ℕ) → ((j : ℕ) → slice_get (filter test xs) j ≡ Some x → (i : ℕ) × (slice_get xs i ≡ Some x))
        → slice_get (cond b (y ∷ filter test xs) (filter test xs)) k ≡ Some x
        → (j : ℕ) × (slice_get (y ∷ xs) j ≡ Some x)
    one true zero rest at = (0, at)
    one true (suc k) rest at = let found = rest k at in (suc found.0, found.1)
    one false k rest at = let found = rest k at in (suc found.0, found.1)

pub known_bounded : (before after : Stream) (cpu bound : ℕ) → HasBound before after cpu bound
    → (c n : ℕ) → IsKnown after.parcels c n → IsKnown before.parcels c n
known_bounded before after cpu bound raised c n known =
    let test : Parcel → Bool = λ p. not (ends_below (bounds_of after.marks) p) in
    ⊎_elim
    (λ (taken : IsTaken after.parcels c n).
    let kept = raised.kept.below.has c n taken.0 taken.1 in
    let found = get_filtered test before.parcels kept.index kept.parcel kept.at in
    inl (taken.0, record { index = found.0; parcel = kept.parcel; at = found.1; pair = kept.pair }))
    (λ (m : Misses after.parcels c n).
    let kept = raised.kept.below.misses c n m in
    let found = get_filtered test before.parcels kept.index kept.parcel kept.at in
    inr record { index = found.0; parcel = kept.parcel; at = found.1; missing = kept.missing })
    known

pub bound_new : (before after : Stream) (cpu bound : ℕ) → HasBound before after cpu bound
    → after.given_up ≡ before.given_up → IsNewOf before after cpu
bound_new before after cpu bound raised same = record {
  known = known_bounded before after cpu bound raised;
  given_up = λ c n m. inl (subst (λ (ps : List Parcel). Misses ps c n) same m);
  others = raised.others;
}

pub lost_new : (before after : Stream) (cpu bound : ℕ) → HasBound before after cpu bound
    → GivesUpBelow before after.given_up cpu bound → IsNewOf before after cpu
lost_new before after cpu bound raised gives = record {
  known = known_bounded before after cpu bound raised;
  given_up = λ c n m. ⊎_elim
      (λ (was : Misses before.given_up c n). inl was)
      (λ (lost : IsLost before cpu bound c n). inr lost.cpu_is)
      ((gives c n).0 m);
  others = raised.others;
}
