-- A record that is put after those of a page.
use Rattle.std.specs.Prelude.{◌≡◌, ℕ, ◌+◌, ◌-◌, ◌≤◌, ◌<◌, ◌⊎◌, Bool, true, false, if◌then◌else◌, IfSome, List, [], ◌∷◌}
use Rattle.std.specs.Prelude.{◌++◌, length, take}
use Rattle.trace_model.specs.declared.limits.TheConstants.{MOMENT_LIMIT}
use Rattle.trace_model.specs.Words.{encoding, encoded_len, slot_len}
use Rattle.trace_model.specs.Reading.{EndsInRecord, IsPlaceIn}
use Rattle.trace_model.specs.Order.{moment_of_last}
use Rattle.trace_model.specs.Overwriting.{IsPlaceOf}
use Rattle.record_words.specs.declared.format.TheConstants.{MAX_PAYLOAD}
use Rattle.record_words.specs.declared.put.Place.{Place}
use Rattle.page_image.specs.Contents.{Contents, IsPage, is_blank, records_of_page}

-- The page has room for a record of this moment with a payload of len bytes; prev is the moment of the last record, if
-- there is one.
pub record CanPut (page : Contents) (prev moment len : ℕ) : Type 0 where
  pub room : length page.bytes + encoded_len len (moment - prev) (is_blank page.bytes) ≤ page.size
  pub order : prev ≤ moment
  pub in_time : moment < MOMENT_LIMIT
  pub last : IfSome (moment_of_last (records_of_page page)) (λ last. last ≡ prev)
  pub ends : EndsInRecord page.bytes

-- A record with a payload of len bytes has room after the first `end` bytes of a body of this size; delta is the time
-- since the record before it, unless it is the first one.
pub record HasRoomAfter (size end delta : ℕ) (first : Bool) (len : ℕ) : Type 0 where
  pub short : len ≤ MAX_PAYLOAD
  pub in_time : (first ≡ true) ⊎ (delta < MOMENT_LIMIT)
  pub room : end + encoded_len len delta first ≤ size

-- It was put there, with these bytes in its slot, which is at this place. What follows the record may be lost.
pub record PutsBehind (old new : List ℕ) (end delta : ℕ) (first : Bool) (len : ℕ) (slot : List ℕ) (at : Place)
    : Type 0 where
  pub bytes : take (at.start + at.len) new ≡ take end old ++ encoding delta first slot
  pub ends_at : at.start + at.len ≡ end + encoded_len len delta first
  pub len_is : at.len ≡ slot_len len

-- The new page is the old one with a record of this moment after the others, for a payload of len bytes, with these
-- bytes in its slot, which is at this place; prev is the moment of the last record.
pub record HasPut (old new : Contents) (prev moment len : ℕ) (slot : List ℕ) (at : Place) : Type 0 where
  pub page : IsPage old → IsPage new
  pub records : IsPage old
      → records_of_page new ≡ records_of_page old ++ record { moment = moment; bytes = slot } ∷ []
  pub bytes : new.bytes ≡ old.bytes ++ encoding (moment - prev) (is_blank old.bytes) slot
  pub time : new.time ≡ (if is_blank old.bytes then moment else old.time)
  pub count : new.count ≡ old.count + 1
  pub first : new.first ≡ old.first
  pub fill : new.fill ≡ old.fill
  pub size : new.size ≡ old.size
  pub longer : length new.bytes ≡ length old.bytes + encoded_len len (moment - prev) (is_blank old.bytes)
  pub filled : is_blank new.bytes ≡ false
  pub last : IfSome (moment_of_last (records_of_page new)) (λ last. last ≡ moment)
  pub ends : EndsInRecord new.bytes
  pub place : IsPlaceIn new.bytes at.start at.len
  pub number : IsPage old → IsPlaceOf new.bytes old.count at.start at.len
  pub places_stay : (number start len : ℕ) → IsPlaceOf old.bytes number start len → IsPlaceOf new.bytes number start len
  pub payloads_stay : (start len : ℕ) → IsPlaceIn old.bytes start len → IsPlaceIn new.bytes start len
  pub end : at.start + at.len ≡ length new.bytes
  pub len_is : at.len ≡ slot_len len
