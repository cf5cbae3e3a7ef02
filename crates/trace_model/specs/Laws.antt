-- The laws over record words, as statements. The functions of src/laws/words.rt have them as
-- their contracts.
use Rattle.std.specs.Prelude.{◌≡◌, ◌⊎◌, ℕ, Bool, List, length}
use Rattle.std.specs.List.{AllByRecursion}
use Rattle.trace_model.specs.Record.{Record}
use Rattle.trace_model.specs.Words.{Decodes, slot_len, encoding, encoded_len, page_encoding}
use Rattle.trace_model.specs.Reading.{records_in, EndsInRecord, IsPlaceIn}
use Rattle.trace_model.specs.Order.{first_moment_or, NeverFalls, IsWritable}
use Rattle.trace_model.specs.Overwriting.{bytes_at, overwritten, IsReplacedAt, IsPlaceOf}

-- a payload that fills the slot of len bytes is written in as many bytes as the writer reckons
abbrev pub EncodingHasItsLength : Type 0
EncodingHasItsLength = (len delta : ℕ) (first : Bool) (payload : List ℕ) → length payload ≡ slot_len len
    → length (encoding delta first payload) ≡ encoded_len len delta first

-- records whose moments never fall, written as the data of a page with the first one's moment as its
-- time, are read back; if there are none, at any time
abbrev pub EncodingsReadBack : Type 0
EncodingsReadBack = (records : List Record) (time : ℕ) → NeverFalls records → AllByRecursion IsWritable records
    → Decodes (page_encoding records) (first_moment_or time records) records

-- data with a time reads as one list of records at most
abbrev pub ReadingIsUnique : Type 0
ReadingIsUnique = (bytes : List ℕ) (time : ℕ) (records others : List Record)
    → Decodes bytes time records → Decodes bytes time others → records ≡ others

-- what data reads as is what the reader word by word finds
abbrev pub PlainReaderAgrees : Type 0
PlainReaderAgrees = (bytes : List ℕ) (time : ℕ) (records : List Record)
    → Decodes bytes time records → records_in time bytes ≡ records

-- where the payload of a record is overwritten by as many bytes, the data reads as the same records but
-- for that one's bytes
abbrev pub OverwritingChangesOneRecord : Type 0
OverwritingChangesOneRecord = (bytes : List ℕ) (time : ℕ) (records : List Record) (number start len : ℕ) (new : List ℕ)
    → IsPlaceOf bytes number start len → length new ≡ len → Decodes bytes time records
    → (others : List Record) × Decodes (overwritten bytes start new) time others
    × IsReplacedAt number records others (bytes_at start len bytes) new

-- where the payload of a record is overwritten by as many bytes, each record keeps its place
abbrev pub OverwritingKeepsPlaces : Type 0
OverwritingKeepsPlaces = (bytes : List ℕ) (number start len at size : ℕ) (new : List ℕ)
    → IsPlaceOf bytes number start len → IsPlaceIn bytes at size → length new ≡ size
    → IsPlaceOf (overwritten bytes at new) number start len

-- where the payload of a record is overwritten by as many bytes, a record may follow if one might before
abbrev pub OverwritingKeepsTheEnd : Type 0
OverwritingKeepsTheEnd = (bytes : List ℕ) (start len : ℕ) (new : List ℕ)
    → IsPlaceIn bytes start len → length new ≡ len → EndsInRecord bytes → EndsInRecord (overwritten bytes start new)

-- a record has one place, and a payload's start decides whose it is
abbrev pub PlacesAreUnique : Type 0
PlacesAreUnique = (bytes : List ℕ) (number start len other_number other_start other_len : ℕ)
    → IsPlaceOf bytes number start len → IsPlaceOf bytes other_number other_start other_len
    → (number ≡ other_number) ⊎ (start ≡ other_start)
    → (number ≡ other_number) × (start ≡ other_start) × (len ≡ other_len)
