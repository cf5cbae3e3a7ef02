-- Parcels of one CPU whose fills rise, one parcel after the other.
use Rattle.std.proofs.Common.{◌≡◌, ⊎_elim, ℕ, ◌+◌, ◌-◌, ◌<◌, ◌≤◌, List, length, get_or, Some, sym, ap, ◌∙◌, subst}
use Rattle.std.proofs.Common.{arith}
use Rattle.std.specs.List.{slice_get}
use Rattle.std.proofs.lemmas.Bool.{cases_lt}
use Rattle.std.proofs.lemmas.Option.{slice_get_within, slice_get-get_or}
use Rattle.trace_model.specs.Parcel.{Parcel}
use Rattle.trace_model.proofs.collections.Elements.{some_is}
use Rattle.collector.specs.deliveries.Deliveries.{AreRising}
use Rattle.page_numbers.specs.Parcels.{AreOfCpu}

-- the first of them are this CPU's, and their fills rise
pub record RiseTo (cpu : ℕ) (parcels : List Parcel) (end : ℕ) : Type 0 where
  pub own : (k : ℕ) (parcel : Parcel) → k < end → slice_get parcels k ≡ Some parcel → parcel.cpu ≡ cpu
  pub rising : (j k : ℕ) (earlier later : Parcel) → j < k → k < end → slice_get parcels j ≡ Some earlier
      → slice_get parcels k ≡ Some later → earlier.fill < later.fill

module _ (cpu : ℕ) (parcels : List Parcel) where
  pub rise_none : RiseTo cpu parcels 0
  rise_none = record {
    own = λ k parcel below at. absurd (let no : ⊥ = omega arith in no);
    rising = λ j k earlier later low below at_j at_k. absurd (let no : ⊥ = omega arith in no);
  }

  module _ (end : ℕ) (next : Parcel) (at : slice_get parcels end ≡ Some next) where
    is_next : (k : ℕ) (parcel : Parcel) → end ≤ k → k < end + 1 → slice_get parcels k ≡ Some parcel → next ≡ parcel
    is_next k parcel from below there =
        let e : end ≡ k = omega arith in
        some_is next parcel (sym at ∙ ap (slice_get parcels) e ∙ there)

    -- one more, whose fill is above that of the one before it
    pub rise_more : next.cpu ≡ cpu
        → ((before : ℕ) (previous : Parcel) → before + 1 ≡ end → slice_get parcels before ≡ Some previous
        → previous.fill < next.fill)
        → RiseTo cpu parcels end
        → RiseTo cpu parcels (end + 1)
    rise_more own above to = record {
      own = λ k parcel below there. ⊎_elim
          (λ (lt : k < end). to.own k parcel lt there)
          (λ from. ap (λ (p : Parcel). p.cpu) (sym (is_next k parcel from below there)) ∙ own)
          (cases_lt k end);
      rising = λ j k earlier later low below at_j at_k. ⊎_elim
          (λ (lt : k < end). to.rising j k earlier later low lt at_j at_k)
          (λ (from : end ≤ k). subst (λ (p : Parcel). earlier.fill < p.fill) (is_next k later from below at_k) (⊎_elim
          (λ (lt : j + 1 < end).
          let inside = slice_get_within parcels end next at in
          let before : ℕ = end - 1 in
          let previous : Parcel = get_or parcels before next in
          let there = slice_get-get_or parcels before next (omega arith) in
          let rises = to.rising j before earlier previous (omega arith) (omega arith) at_j there in
          let last = above before previous (omega arith) there in
          omega arith)
          (λ (ge : end ≤ j + 1). above j earlier (omega arith) at_j)
          (cases_lt (j + 1) end)))
          (cases_lt k end);
    }

  pub rise_all : (end : ℕ) → length parcels ≤ end → RiseTo cpu parcels end → AreOfCpu parcels cpu × AreRising parcels
  rise_all end past to = (
    λ k parcel there. let within = slice_get_within parcels k parcel there in to.own k parcel (omega arith) there,
    λ j k earlier later low at_j at_k. let within = slice_get_within parcels k later at_k in
        to.rising j k earlier later low (omega arith) at_j at_k,
  )
