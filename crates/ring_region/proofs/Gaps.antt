-- What is missing between the pages of a region: all numbers between them, and no others.
use Rattle.std.proofs.Common.{◌≡◌, ℕ, zero, suc, ◌+◌, ◌-◌, ◌≤◌, ◌<◌, ◌⊎◌, inl, inr, ⊎_elim, List, [], ◌∷◌, Some, get_or}
use Rattle.std.proofs.Common.{refl, sym, ap, arith}
use Rattle.std.proofs.lemmas.Bool.{cases_lt}
use Rattle.std.proofs.lemmas.Option.{none-some, slice_get-get_or}
use Rattle.std.specs.List.{slice_get}
use Rattle.trace_model.specs.Record.{Record}
use Rattle.trace_model.specs.Parcel.{Parcel}
use Rattle.trace_model.specs.Collection.{Has, Misses}
use Rattle.trace_model.proofs.collections.Elements.{some_is}
use Rattle.ring_region.specs.declared.faults.Damaged.{Damaged}
use Rattle.ring_region.specs.Order.{end_of, recovered_from, recovered}
use Rattle.ring_region.specs.Regions.{last_end}
use Rattle.ring_region.proofs.Rising.{ArePlain}

-- some parcel of these ends at or below the number
pub record EndsBelow (parcels : List Parcel) (n : ℕ) : Type 0 where
  pub index : ℕ
  pub parcel : Parcel
  pub at : slice_get parcels index ≡ Some parcel
  pub low : end_of parcel ≤ n

below_more : (first : Parcel) (parcels : List Parcel) (n : ℕ) → EndsBelow parcels n → EndsBelow (first ∷ parcels) n
below_more first parcels n below =
    record { index = suc below.index; parcel = below.parcel; at = below.at; low = below.low }

-- a number that is missing is at or above `taken`, or above some parcel
missing_above : (taken : ℕ) (parcels : List Parcel) (k : ℕ) (parcel : Parcel) (n : ℕ)
    → slice_get (recovered_from taken parcels) k ≡ Some parcel
    → parcel.first ≤ n + parcel.missed → n < parcel.first → (taken ≤ n) ⊎ EndsBelow (recovered_from taken parcels) n
missing_above taken [] k parcel n at low high = absurd (none-some parcel at)
missing_above taken (first ∷ parcels) zero parcel n at low high =
    let same = some_is (record first { missed = first.first - taken }) parcel at in
    let misses = ap (λ (p : Parcel). p.missed) same in
    let firsts = ap (λ (p : Parcel). p.first) same in
    inl (omega (arith, misses, firsts, low, high))
missing_above taken (first ∷ parcels) (suc k) parcel n at low high = ⊎_elim
    (λ above.
    inr (record { index = 0; parcel = record first { missed = first.first - taken }; at = refl; low = above }))
    (λ below.
    inr (below_more (record first { missed = first.first - taken }) (recovered_from (end_of first) parcels) n
    below))
    (missing_above (end_of first) parcels k parcel n at low high)

-- what a parcel misses says that no slot is damaged
pub record IsGap (taken : ℕ) (damaged : List Damaged) (parcels : List Parcel) (n : ℕ) : Type 0 where
  pub undamaged : damaged ≡ []
  pub above : (taken ≤ n) ⊎ EndsBelow parcels n

pub missing_in_gap : (cpu taken : ℕ) (damaged : List Damaged) (parcels : List Parcel) → ArePlain cpu parcels
    → (k : ℕ) (parcel : Parcel) (n : ℕ)
    → slice_get (recovered taken damaged parcels) k ≡ Some parcel → parcel.first ≤ n + parcel.missed → n < parcel.first
    → IsGap taken damaged (recovered taken damaged parcels) n
missing_in_gap cpu taken [] parcels plain k parcel n at low high =
    record { undamaged = refl; above = missing_above taken parcels k parcel n at low high }
missing_in_gap cpu taken (damage ∷ damaged) parcels plain k parcel n at low high =
    let none = (plain k parcel at).1 in absurd (omega (arith, none, low, high))

-- ---- no number is passed over

abbrev IsKnown : List Parcel → (cpu n : ℕ) → Type 0
IsKnown parcels cpu n = ((r : Record) × Has parcels cpu n r) ⊎ Misses parcels cpu n

known_more : (first : Parcel) (parcels : List Parcel) (cpu n : ℕ) → IsKnown parcels cpu n
    → IsKnown (first ∷ parcels) cpu n
known_more first parcels cpu n known = ⊎_elim
    (λ (r, has). inl (r, record { index = suc has.index; parcel = has.parcel; at = has.at; pair = has.pair }))
    (λ misses.
    inr (record { index = suc misses.index; parcel = misses.parcel; at = misses.at; missing = misses.missing }))
    known

-- the record of a number that a parcel has
own : (parcels : List Parcel) (parcel : Parcel) (cpu n : ℕ) → parcel.cpu ≡ cpu → parcel.first ≤ n → n < end_of parcel
    → IsKnown (parcel ∷ parcels) cpu n
own parcels parcel cpu n of_cpu low high = at_index (n - parcel.first) (omega arith)
  where
    at_index : (index : ℕ) → n ≡ parcel.first + index → IsKnown (parcel ∷ parcels) cpu n
    at_index index is =
        let r : Record = get_or parcel.records index (record { moment = 0; bytes = [] }) in
        inl (
          r,
          record {
            index = 0;
            parcel = parcel;
            at = refl;
            pair = record {
              index = index;
              cpu_is = sym of_cpu;
              number_is = is;
              record_is = slice_get-get_or parcel.records index (record { moment = 0; bytes = [] }) (omega arith);
            };
          },
        )

missing : (parcels : List Parcel) (parcel : Parcel) (cpu n : ℕ) → parcel.cpu ≡ cpu → parcel.first ≤ n + parcel.missed
    → n < parcel.first → IsKnown (parcel ∷ parcels) cpu n
missing parcels parcel cpu n of_cpu low high =
    inr (record {
      index = 0;
      parcel = parcel;
      at = refl;
      missing = record { cpu_is = sym of_cpu; low = low; high = high };
    })

pub all_known : (cpu taken : ℕ) (parcels : List Parcel) → ArePlain cpu parcels → (n : ℕ) → taken ≤ n
    → n < last_end (recovered_from taken parcels)
    → IsKnown (recovered_from taken parcels) cpu n
all_known cpu taken [] plain n above under = absurd (omega arith)
all_known cpu taken (parcel ∷ []) plain n above under = ⊎_elim
    (λ low.
    missing [] (record parcel { missed = parcel.first - taken }) cpu n (plain 0 parcel refl).0 (omega arith) low)
    (λ there. own [] (record parcel { missed = parcel.first - taken }) cpu n (plain 0 parcel refl).0 there under)
    (cases_lt n parcel.first)
all_known cpu taken (parcel ∷ other ∷ parcels) plain n above under =
    let here : Parcel = record parcel { missed = parcel.first - taken } in
    let rest : List Parcel = recovered_from (end_of parcel) (other ∷ parcels) in
    ⊎_elim
    (λ low. missing rest here cpu n (plain 0 parcel refl).0 (omega arith) low)
    (λ there. ⊎_elim
    (λ within. own rest here cpu n (plain 0 parcel refl).0 there within)
    (λ behind.
    known_more here rest cpu n
    (all_known cpu (end_of parcel) (other ∷ parcels) (λ k p at. plain (suc k) p at) n behind under))
    (cases_lt n (end_of parcel)))
    (cases_lt n parcel.first)
