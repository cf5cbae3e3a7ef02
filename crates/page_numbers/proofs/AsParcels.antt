-- Parcels in a list, as the model's parcels in theirs.
use Rattle.std.proofs.Common.{◌≡◌, ℕ, ◌<◌, ◌≤◌, List, length, take, get_or, Some, refl, sym, ap, ◌∙◌, subst}
use Rattle.std.specs.Prelude.{Contains}
use Rattle.std.specs.List.{slice_get}
use Rattle.std.specs.Option.{option_map}
use Rattle.std.proofs.lemmas.List.{get_or-map, length-map, take-map, take_all}
use Rattle.std.proofs.lemmas.Option.{slice_get-map, slice_get-get_or}
use Rattle.trace_model.specs.Parcel.{Parcel}
use Rattle.page_numbers.specs.Parcels.{ParcelValue, as_parcel, as_parcels}

pub as_many : (kept : List ParcelValue) (parcels : List Parcel) → as_parcels kept ≡ parcels
    → length kept ≡ length parcels
as_many kept parcels same = sym (length-map kept as_parcel) ∙ ap length same

pub parcel_at : (kept : List ParcelValue) (i : ℕ) (parcel : ParcelValue) → i < length kept
    → slice_get (as_parcels kept) i ≡ Some (as_parcel (get_or kept i parcel))
parcel_at kept i parcel within =
    slice_get-map as_parcel kept i ∙ ap (option_map as_parcel) (slice_get-get_or kept i parcel within)

pub parcel_read : (kept : List ParcelValue) (i : ℕ) (parcel : ParcelValue) → i < length kept
    → parcel ≡ get_or kept i parcel → slice_get (as_parcels kept) i ≡ Some (as_parcel parcel)
parcel_read kept i parcel within is =
    parcel_at kept i parcel within ∙ ap (λ (p : ParcelValue). Some (as_parcel p)) (sym is)

pub parcel_is : (kept : List ParcelValue) (parcels : List Parcel) (i : ℕ) (parcel : ParcelValue)
    → as_parcels kept ≡ parcels → i < length parcels → parcel ≡ get_or kept i parcel
    → as_parcel parcel ≡ get_or parcels i (as_parcel parcel)
parcel_is kept parcels i parcel same within is =
    subst (λ (l : List Parcel). as_parcel parcel ≡ get_or l i (as_parcel parcel)) same
    (ap as_parcel is
    ∙ sym (get_or-map as_parcel kept i parcel (as_parcel parcel)
    (subst (λ (k : ℕ). i < k) (sym (as_many kept parcels same)) within)))

-- ---- in the list of all of them

pub within_all : (kept : List ParcelValue) (i : ℕ) → i < length kept → i < length (as_parcels kept)
within_all kept i within = subst (λ (n : ℕ). i < n) (sym (length-map kept as_parcel)) within

pub parcel_of_all : (kept : List ParcelValue) (i : ℕ) (parcel : ParcelValue) → i < length kept
    → parcel ≡ get_or kept i parcel → as_parcel parcel ≡ get_or (as_parcels kept) i (as_parcel parcel)
parcel_of_all kept i parcel within is = parcel_is kept (as_parcels kept) i parcel refl (within_all kept i within) is

pub is_among : (kept : List ParcelValue) (i : ℕ) (parcel : ParcelValue) → i < length kept
    → parcel ≡ get_or kept i parcel → Contains (as_parcels kept) (as_parcel parcel)
is_among kept i parcel within is = (i, within_all kept i within, sym (parcel_of_all kept i parcel within is))

pub take_all_of : (kept : List ParcelValue) (i : ℕ) → length kept ≤ i → take i (as_parcels kept) ≡ as_parcels kept
take_all_of kept i past = take-map as_parcel i kept ∙ ap as_parcels (take_all i kept past)
