-- What is held in a region: its parcels are of its CPU, and apart.
use Rattle.std.proofs.Common.{◌≡◌, ◌∙◌, ℕ, ◌+◌, ◌≤◌, ◌<◌, Bool, true, false, List, Some, sym, ap, subst}
use Rattle.std.specs.Prelude.{None, nat_lt, if◌then◌else◌}
use Rattle.std.specs.List.{slice_get}
use Rattle.trace_model.specs.Parcel.{Parcel}
use Rattle.trace_model.specs.Collection.{Agree}
use Rattle.ring_region.specs.Headers.{slot_in}
use Rattle.ring_region.specs.declared.headers.Header.{Header}
use Rattle.ring_region.specs.Slots.{Slot, blank, intact, faulty, IsSlotOf}
use Rattle.ring_region.specs.Order.{end_of, kept_behind}
use Rattle.ring_region.specs.Regions.{unpassed, IsUnpassedSlotOf, Recovered, IsHeld}
use Rattle.ring_region.proofs.OnePage.{page-numbers}
use Rattle.ring_region.proofs.Rising.{ArePlain, AreApart, kept-rising, kept_was_found, all-apart, all-cpu}
use Rattle.ring_region.proofs.Disjoint.{apart_agree}
use Rattle.ring_region.proofs.Gaps.{IsGap, missing_in_gap}

-- a page that wasn't passed is one that was read
unpassed-intact : (taken : ℕ) (slot : Slot) (parcel : Parcel) → intact parcel ≡ unpassed taken slot
    → slot ≡ intact parcel
unpassed-intact taken blank parcel e = cc
unpassed-intact taken (faulty cause) parcel e = cc
unpassed-intact taken (intact read) parcel e = either_way (nat_lt (end_of read) taken) e
  where
    either_way : (passed : Bool) → intact parcel ≡ (if passed then blank else intact read) → intact read ≡ intact parcel
    either_way true e = cc
    either_way false e = sym e

unpassed-numbers : (header : Header) (bytes : List ℕ) (parcel : Parcel) → IsUnpassedSlotOf header bytes (intact parcel)
    → (parcel.cpu ≡ header.cpu.0) × (parcel.missed ≡ 0)
unpassed-numbers header bytes parcel is = page-numbers header.cpu.0 bytes parcel
    (subst (λ (s : Slot). IsSlotOf header.cpu.0 bytes s) (unpassed-intact header.taken.0 is.read parcel is.slot_is)
    is.read_is)

module _ (bytes : List ℕ) (held : Recovered) (is : IsHeld bytes held) where
  pub plain : ArePlain held.header.cpu.0 (kept_behind None is.found)
  plain k parcel at =
      let was = kept_was_found None is.found k parcel at in
      let found = is.by_fill.of_them was.0 was.1 was.2 in
      let numbers =
      unpassed-numbers held.header (slot_in held.header.size bytes was.1.slot) was.1.parcel
      (is.slots_are was.1.slot _ found) in (
        ap (λ (p : Parcel). p.cpu) (sym was.3) ∙ numbers.0,
        ap (λ (p : Parcel). p.missed) (sym was.3) ∙ numbers.1,
      )

  apart : AreApart 0 held.parcels
  apart =
      subst (AreApart 0) (sym is.parcels_are)
      (all-apart held.header.cpu.0 held.header.taken.0 held.damaged (kept_behind None is.found) plain
      (kept-rising None is.found))

  pub held_agree : Agree held.parcels
  held_agree = apart_agree 0 held.parcels apart

  pub held_cpu : (k : ℕ) (parcel : Parcel) → slice_get held.parcels k ≡ Some parcel → parcel.cpu ≡ held.header.cpu.0
  held_cpu k parcel at =
      all-cpu held.header.cpu.0 held.header.taken.0 held.damaged (kept_behind None is.found) plain k parcel
      (ap (λ (ps : List Parcel). slice_get ps k) (sym is.parcels_are) ∙ at)

  pub held_gaps : (k : ℕ) (parcel : Parcel) (n : ℕ) → slice_get held.parcels k ≡ Some parcel
      → parcel.first ≤ n + parcel.missed → n < parcel.first
      → IsGap held.header.taken.0 held.damaged held.parcels n
  held_gaps k parcel n at low high =
      subst (λ (ps : List Parcel). IsGap held.header.taken.0 held.damaged ps n) (sym is.parcels_are)
      (missing_in_gap held.header.cpu.0 held.header.taken.0 held.damaged (kept_behind None is.found) plain k parcel n
      (ap (λ (ps : List Parcel). slice_get ps k) (sym is.parcels_are) ∙ at) low high)
