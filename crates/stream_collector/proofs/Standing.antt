-- The state of a number.
use Rattle.std.proofs.Common.{◌≡◌, ◌⊎◌, ℕ, ◌<◌, ◌≤◌, Bool, true, false, List, ⊎_elim, inl, inr, refl, sym, ◌∙◌, Option}
use Rattle.std.proofs.Common.{Some, None, IfNone, arith}
use Rattle.std.proofs.lemmas.Bool.{false≢true, cases_lt}
use Rattle.trace_model.specs.Record.{Record}
use Rattle.trace_model.specs.Parcel.{Parcel}
use Rattle.trace_model.specs.Collection.{Has, Misses}
use Rattle.collector.specs.declared.kinds.Kind.TheVariants.{Unknown}
use Rattle.collector.specs.Runs.{is_missed, is_of_kind}
use Rattle.collector.specs.Shown.{IsUnknown}
use Rattle.collector.specs.Known.{IsKnown}
use Rattle.collector.proofs.OfKind.{known_unless, is_of_true, of_is_true}
use Rattle.collector.proofs.Stretches.{is_missed_true, misses_of_true}
use Rattle.stream_collector.specs.Marking.{IsNotOpen, by_bound, by_parcels, by_given_up}
use Rattle.stream_collector.specs.Stream.{Stream, bound_of, HasOutcome, has_record, is_missing, is_undelivered}
use Rattle.stream_collector.specs.Stream.{HaveNoRecord, IsNotKnown}

-- a number is known, or nothing is known of it
pub known_or_not : (ps : List Parcel) (cpu n : ℕ) → IsUnknown ps cpu n ⊎ IsKnown ps cpu n
known_or_not ps cpu n = at (is_of_kind Unknown ps cpu n) refl
  where
    at : (b : Bool) → is_of_kind Unknown ps cpu n ≡ b → IsUnknown ps cpu n ⊎ IsKnown ps cpu n
    at true e = inl (of_is_true Unknown ps cpu n e)
    at false e = inr (known_unless ps cpu n (λ unknown. false≢true (sym e ∙ is_of_true Unknown ps cpu n unknown)))

pub known_accounted : (s : Stream) (cpu n : ℕ) → bound_of s cpu ≤ n → IsKnown s.parcels cpu n → HasOutcome s cpu n
known_accounted s cpu n from known = ⊎_elim
    (λ (there : (r : Record) × Has s.parcels cpu n r). has_record there.0 record { from = from; has = there.1 })
    (λ (m : Misses s.parcels cpu n). is_missing record { from = from; misses = m })
    known

-- from the bound on, what isn't known the parcels don't know
pub unknown_from : (s : Stream) (cpu n : ℕ) → bound_of s cpu ≤ n → IsNotKnown s cpu n → IsUnknown s.parcels cpu n
unknown_from s cpu n from not_known = ⊎_elim
    (λ (below : n < bound_of s cpu). absurd (omega arith))
    (λ (unknown : IsUnknown s.parcels cpu n). unknown)
    not_known

pub given_up_accounted : (s : Stream) (cpu n : ℕ) → bound_of s cpu ≤ n → Misses s.given_up cpu n → HasOutcome s cpu n
given_up_accounted s cpu n from given_up = ⊎_elim
    (λ (unknown : IsUnknown s.parcels cpu n).
    is_undelivered from record { given_up = given_up; not_known = inr unknown })
    (λ known. known_accounted s cpu n from known)
    (known_or_not s.parcels cpu n)

-- what is known of the given up is that they are missing
pub known_missed : (ps : List Parcel) (cpu n : ℕ) → HaveNoRecord ps → IsKnown ps cpu n → Misses ps cpu n
known_missed ps cpu n none known = ⊎_elim
    (λ (there : (r : Record) × Has ps cpu n r). absurd (none cpu n there.0 there.1))
    (λ (m : Misses ps cpu n). m)
    known

pub none_gives : {X : Type 0} (o : Option X) (P Q : Type 0) → IfNone o P → (P → Q) → IfNone o Q
none_gives None P Q p f = f p
none_gives (Some x) P Q p f = tt

pub not_both : (ps : List Parcel) (cpu n : ℕ) → IsUnknown ps cpu n → IsKnown ps cpu n → ⊥
not_both ps cpu n unknown known = ⊎_elim
    (λ (there : (r : Record) × Has ps cpu n r). unknown.no_record there.0 there.1)
    (λ (m : Misses ps cpu n). unknown.not_missing m)
    known

-- a number is reached only below the bound and what is known and given up
pub reached_below : (s : Stream) (cpu top : ℕ) → bound_of s cpu ≤ top → ((n : ℕ) → top ≤ n → IsUnknown s.parcels cpu n)
    → ((n : ℕ) → top ≤ n → IsUnknown s.given_up cpu n) → (n : ℕ) → IsNotOpen s cpu n → n < top
reached_below s cpu top up parcels marks n (by_bound lt) = omega arith
reached_below s cpu top up parcels marks n (by_parcels k) = ⊎_elim
    (λ (lt : n < top). lt)
    (λ (le : top ≤ n). absurd (not_both s.parcels cpu n (parcels n le) k))
    (cases_lt n top)
reached_below s cpu top up parcels marks n (by_given_up m) = ⊎_elim
    (λ (lt : n < top). lt)
    (λ (le : top ≤ n). absurd ((marks n le).not_missing m))
    (cases_lt n top)

pub missed_or_not : (ps : List Parcel) (cpu n : ℕ) → Misses ps cpu n ⊎ (Misses ps cpu n → ⊥)
missed_or_not ps cpu n = at (is_missed ps cpu n) refl
  where
    at : (b : Bool) → is_missed ps cpu n ≡ b → Misses ps cpu n ⊎ (Misses ps cpu n → ⊥)
    at true e = inl (misses_of_true ps cpu n e)
    at false e = inr (λ m. false≢true (sym e ∙ is_missed_true ps cpu n m))
