-- The parcels of two collections, one after the other, are the least above both.
use Rattle.std.proofs.Common.{◌+◌, List, ◌++◌, length, ⊎_elim, ◌∙◌}
use Rattle.trace_model.specs.Parcel.{Parcel}
use Rattle.trace_model.specs.Collection.{Agree, IsBelow, IsLeastUpperBound}
use Rattle.trace_model.proofs.collections.Elements.{get_in_front, get_behind, get_in_either}

pub joined_left : (parcels others : List Parcel) → IsBelow parcels (parcels ++ others)
joined_left ps qs = record {
  has =
      λ cpu number r h.
      record {
        index = h.index;
        parcel = h.parcel;
        at = get_in_front ps qs h.index h.parcel h.at;
        pair = h.pair;
      };
  misses =
      λ cpu number h.
      record {
        index = h.index;
        parcel = h.parcel;
        at = get_in_front ps qs h.index h.parcel h.at;
        missing = h.missing;
      };
}

pub joined_right : (parcels others : List Parcel) → IsBelow others (parcels ++ others)
joined_right ps qs = record {
  has =
      λ cpu number r h.
      record {
        index = length ps + h.index;
        parcel = h.parcel;
        at = get_behind ps qs h.index ∙ h.at;
        pair = h.pair;
      };
  misses =
      λ cpu number h.
      record {
        index = length ps + h.index;
        parcel = h.parcel;
        at = get_behind ps qs h.index ∙ h.at;
        missing = h.missing;
      };
}

pub joined_below : (parcels others above : List Parcel) → IsBelow parcels above → IsBelow others above
    → IsBelow (parcels ++ others) above
joined_below ps qs above a b = record {
  has = λ cpu number r h. ⊎_elim
      (λ (j, there). a.has cpu number r record { index = j; parcel = h.parcel; at = there; pair = h.pair })
      (λ (j, there). b.has cpu number r record { index = j; parcel = h.parcel; at = there; pair = h.pair })
      (get_in_either ps qs h.index h.parcel h.at);
  misses = λ cpu number h. ⊎_elim
      (λ (j, there). a.misses cpu number record { index = j; parcel = h.parcel; at = there; missing = h.missing })
      (λ (j, there). b.misses cpu number record { index = j; parcel = h.parcel; at = there; missing = h.missing })
      (get_in_either ps qs h.index h.parcel h.at);
}

-- what is below parcels that agree agrees
pub below_agrees : (parcels others : List Parcel) → IsBelow parcels others → Agree others → Agree parcels
below_agrees ps qs b agree = record {
  one_record =
      λ cpu number r other h that.
      agree.one_record cpu number r other (b.has cpu number r h) (b.has cpu number other that);
  not_missing = λ cpu number r h m. agree.not_missing cpu number r (b.has cpu number r h) (b.misses cpu number m);
}

pub joined_least : (parcels others : List Parcel) → Agree (parcels ++ others)
    → IsLeastUpperBound parcels others (parcels ++ others)
joined_least ps qs agree =
    record { agree = agree; left = joined_left ps qs; right = joined_right ps qs; least = joined_below ps qs }

-- where there is a join, the parcels agree
pub joined_agree : (parcels others join : List Parcel) → IsLeastUpperBound parcels others join
    → Agree (parcels ++ others)
joined_agree ps qs join j = below_agrees (ps ++ qs) join (joined_below ps qs join j.left j.right) j.agree
