-- A stream of a fleet that was changed or put there.
use Rattle.std.proofs.Common.{◌≡◌, ⊎_elim, inl, inr, IsSome, ℕ, zero, suc, ◌<◌, Bool, true, false, cond, List, []}
use Rattle.std.proofs.Common.{◌∷◌, ◌++◌, Some}
use Rattle.std.proofs.Common.{None, Result, Ok, Err, OnOk, OnErr, refl, sym, ap, ◌∙◌, subst, arith}
use Rattle.std.specs.List.{slice_get}
use Rattle.std.specs.Ordering.{nat_cmp}
use Rattle.std.specs.BTreeMap.{is_at}
use Rattle.std.specs.Map.{set_value}
use Rattle.std.proofs.lemmas.Map.Steps.{set_value_same}
use Rattle.std.proofs.lemmas.Option.{none-some}
use Rattle.trace_model.specs.Parcel.{Parcel}
use Rattle.trace_model.specs.Collection.{Misses}
use Rattle.trace_model.specs.declared.limits.TheConstants.{MAX_CPUS}
use Rattle.trace_model.proofs.collections.Elements.{some_is, get_in_either}
use Rattle.collector.specs.Known.{IsKnown, IsTaken}
use Rattle.stream_collector.specs.Marks.{marks_at}
use Rattle.stream_collector.specs.Stream.{Stream}
use Rattle.stream_collector.specs.declared.added.Added.{Added}
use Rattle.stream_collector.specs.declared.added.Added.TheVariants.{New, Known, Forgotten}
use Rattle.fleet_collector.specs.Fleet.{known_of, stream_at, empty_stream, or_empty, HasKnownCpus, AllHaveKnownCpus}

-- the stream of this id has this value afterwards, and the others have what they had
abbrev pub IsPut : (old new : List (ℕ × Stream)) (id : ℕ) (after : Stream) → Type 0
IsPut old new id after = (q : ℕ) → known_of new q ≡ cond (is_at (nat_cmp id) q) (Some after) (known_of old q)

pub cpus_put : (old new : List (ℕ × Stream)) (id : ℕ) (after : Stream) → IsPut old new id after
    → AllHaveKnownCpus old → HasKnownCpus after → AllHaveKnownCpus new
cpus_put old new id after put known here q stream at = on (is_at (nat_cmp id) q) (put q)
  where
    on : (b : Bool) → known_of new q ≡ cond b (Some after) (known_of old q) → HasKnownCpus stream
    on true e = subst HasKnownCpus (some_is after stream (sym e ∙ at)) here
    on false e = known q stream (sym e ∙ at)

-- if a stream is written back as it was, so is the fleet
pub same_put : (old new : List (ℕ × Stream)) (id : ℕ) (before after : Stream) → known_of old id ≡ Some before
    → new ≡ set_value (is_at (nat_cmp id)) old after → after ≡ before → new ≡ old
same_put old new id before after there put same =
    put ∙ ap (set_value (is_at (nat_cmp id)) old) same ∙ set_value_same (is_at (nat_cmp id)) old before there

-- ---- a parcel that was added

module _ (before after : Stream) (p : Parcel) (few : p.cpu < MAX_CPUS) (old : HasKnownCpus before) where
  only : {X : Type 0} (x : X) (k : ℕ) (y : X) → slice_get (x ∷ []) k ≡ Some y → x ≡ y
  only x zero y at = some_is x y at
  only x (suc k) y at = absurd (none-some y at)

  known_cpu : (cpu number : ℕ) → IsKnown (before.parcels ++ p ∷ []) cpu number → cpu < MAX_CPUS
  known_cpu cpu number = ⊎_elim
      (λ (taken : IsTaken (before.parcels ++ p ∷ []) cpu number).
      let h = taken.1 in
      ⊎_elim
      (λ (front : (j : ℕ) × (slice_get before.parcels j ≡ Some h.parcel)). old.known cpu number
      (inl (taken.0, record { index = front.0; parcel = h.parcel; at = front.1; pair = h.pair })))
      (λ (new : (j : ℕ) × (slice_get (p ∷ []) j ≡ Some h.parcel)).
      of_last cpu h.parcel new.0 new.1 h.pair.cpu_is)
      (get_in_either before.parcels (p ∷ []) h.index h.parcel h.at))
      (λ (m : Misses (before.parcels ++ p ∷ []) cpu number).
      ⊎_elim
      (λ (front : (j : ℕ) × (slice_get before.parcels j ≡ Some m.parcel)). old.known cpu number
      (inr record { index = front.0; parcel = m.parcel; at = front.1; missing = m.missing }))
      (λ (new : (j : ℕ) × (slice_get (p ∷ []) j ≡ Some m.parcel)).
      of_last cpu m.parcel new.0 new.1 m.missing.cpu_is)
      (get_in_either before.parcels (p ∷ []) m.index m.parcel m.at))
    where
      of_last : (cpu : ℕ) (q : Parcel) (k : ℕ) → slice_get (p ∷ []) k ≡ Some q → cpu ≡ q.cpu → cpu < MAX_CPUS
      of_last cpu q k at is =
          let same : p.cpu ≡ q.cpu = ap (λ (x : Parcel). x.cpu) (only p k q at) in
          let lt : cpu < MAX_CPUS = omega arith in lt

  kept_cpus : after ≡ record before { parcels = before.parcels ++ p ∷ [] } → HasKnownCpus after
  kept_cpus e = subst HasKnownCpus (sym e) record { known = known_cpu; given_up = old.given_up; marked = old.marked }

  stays : after ≡ before → HasKnownCpus after
  stays e = subst HasKnownCpus (sym e) old

  pub cpus_added : {E : Type 0} (result : Result Added E)
      → (result ≡ Ok New → after ≡ record before { parcels = before.parcels ++ p ∷ [] })
      → (result ≡ Ok Known → after ≡ before) → (result ≡ Ok Forgotten → after ≡ before)
      → OnErr result (after ≡ before) → HasKnownCpus after
  cpus_added (Ok New) new known forgotten refused = kept_cpus (new refl)
  cpus_added (Ok Known) new known forgotten refused = stays (known refl)
  cpus_added (Ok Forgotten) new known forgotten refused = stays (forgotten refl)
  cpus_added (Err e) new known forgotten refused = stays refused

-- of nothing no CPU is known
pub cpus_of_empty : HasKnownCpus empty_stream
cpus_of_empty = record {
  known = λ cpu number known. ⊎_elim
      (λ (taken : IsTaken [] cpu number). let h = taken.1 in absurd (none-some h.parcel h.at))
      (λ (m : Misses [] cpu number). absurd (none-some m.parcel m.at))
      known;
  given_up = λ cpu number m. absurd (none-some m.parcel m.at);
  marked = λ cpu says. ⊎_elim (λ (lt : 0 < 0). absurd (omega arith)) (λ (some : IsSome
      (marks_at [] cpu).end). let no : ⊥ = cc in absurd no)
      says;
}

pub cpus_of_none : (stream : Stream) → stream.parcels ≡ [] → stream.marks ≡ [] → stream.given_up ≡ []
    → HasKnownCpus stream
cpus_of_none stream p m g = subst HasKnownCpus
    (λ i. record { parcels = sym p i; marks = sym m i; given_up = sym g i })
    cpus_of_empty

-- ---- a stream that is put there

-- if a map takes it, it is put there, and if memory is refused, all stays
pub cpus_inserted : {T E P Q : Type 0} (result : Result T E) (old new : List (ℕ × Stream)) (id : ℕ) (after : Stream)
    → OnOk result P → (P → IsPut old new id after) → OnErr result Q → (Q → new ≡ old)
    → AllHaveKnownCpus old → HasKnownCpus after → AllHaveKnownCpus new
cpus_inserted (Ok t) old new id after ok put err same known here = cpus_put old new id after (put ok) known here
cpus_inserted (Err e) old new id after ok put err same known here = subst AllHaveKnownCpus (sym (same err)) known

-- a stream of which nothing is known
pub was_nothing : (fleet : List (ℕ × Stream)) (id : ℕ) (first : Stream) → known_of fleet id ≡ None
    → first.parcels ≡ [] → first.marks ≡ [] → first.given_up ≡ [] → stream_at fleet id ≡ first
was_nothing fleet id first none p m g =
    ap or_empty none ∙ (λ i. record { parcels = sym p i; marks = sym m i; given_up = sym g i })
