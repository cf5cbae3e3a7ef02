-- What one parcel has and misses.
use Rattle.std.proofs.Common.{◌≡◌, ℕ, zero, suc, ◌+◌, ◌-◌, ◌<◌, ◌≤◌, [], ◌∷◌, length, Some, ⊎_elim, inl, inr, refl, sym}
use Rattle.std.proofs.Common.{subst, arith}
use Rattle.std.specs.List.{slice_get}
use Rattle.std.proofs.lemmas.Bool.{cases_lt}
use Rattle.std.proofs.lemmas.Option.{none-some, slice_get_within}
use Rattle.trace_model.specs.Record.{Record}
use Rattle.trace_model.specs.Parcel.{Parcel}
use Rattle.trace_model.specs.Collection.{Has, Misses}
use Rattle.trace_model.proofs.collections.Elements.{some_is}
use Rattle.collector.specs.Known.{IsKnown}
use Rattle.collector.proofs.Indexing.{in_taken}

-- from its first missing number up to the one after its last record, all numbers are known
pub one_known : (p : Parcel) (n : ℕ) → p.missed ≤ p.first → p.first - p.missed ≤ n → n < p.first + length p.records
    → IsKnown (p ∷ []) p.cpu n
one_known p n fits from below = ⊎_elim
    (λ (lt : n < p.first). inr record {
      index = 0;
      parcel = p;
      at = refl;
      missing = record { cpu_is = refl; low = omega arith; high = lt };
    })
    (λ (le : p.first ≤ n). inl (in_taken (p ∷ []) 0 p.cpu n
    record { parcel = p; at = refl; cpu_is = refl; from = le; below = below }))
    (cases_lt n p.first)

-- a known number is one of these
pub record IsOneOf (p : Parcel) (cpu n : ℕ) : Type 0 where
  pub cpu_is : cpu ≡ p.cpu
  pub from : p.first - p.missed ≤ n
  pub below : n < p.first + length p.records

is_it : (p q : Parcel) (k : ℕ) → slice_get (p ∷ []) k ≡ Some q → p ≡ q
is_it p q zero at = some_is p q at
is_it p q (suc k) at = absurd (none-some q at)

pub known_within : (p : Parcel) (cpu n : ℕ) → IsKnown (p ∷ []) cpu n → IsOneOf p cpu n
known_within p cpu n known = ⊎_elim
    (λ (there : (r : Record) × Has (p ∷ []) cpu n r).
    let h = there.1 in
    let within = slice_get_within h.parcel.records h.pair.index there.0 h.pair.record_is in
    let is = h.pair.number_is in
    let one : IsOneOf h.parcel cpu n = record { cpu_is = h.pair.cpu_is; from = omega arith; below = omega arith } in
    subst (λ (q : Parcel). IsOneOf q cpu n) (sym (is_it p h.parcel h.index h.at)) one)
    (λ (m : Misses (p ∷ []) cpu n).
    let low = m.missing.low in
    let high = m.missing.high in
    let one : IsOneOf m.parcel cpu n = record { cpu_is = m.missing.cpu_is; from = omega arith; below = omega arith } in
    subst (λ (q : Parcel). IsOneOf q cpu n) (sym (is_it p m.parcel m.index m.at)) one)
    known
