-- A payload that a page lends out to be written.
use Rattle.std.specs.Prelude.{◌≡◌, ℕ, ◌+◌, List, [], ◌∷◌, ◌++◌, length, take}
use Rattle.std.specs.Borrow.{Lends, MutBor, Fml, Array, u8}
use Rattle.trace_model.specs.Record.{Record}
use Rattle.trace_model.specs.Reading.{EndsInRecord, IsPlaceIn}
use Rattle.trace_model.specs.Order.{moment_of_last}
use Rattle.trace_model.specs.Overwriting.{overwritten, bytes_at, IsReplacedAt, IsPlaceOf}
use Rattle.page_image.specs.Contents.{Contents, IsPage, is_blank, records_of_page}
use Rattle.page_image.specs.contracts.body.Body as body_rows
use Rattle.page_image.specs.contracts.page.Page.{the_row}

-- the bytes with these from start on, as far as they reach
abbrev pub with_part : List ℕ → ℕ → List ℕ → List ℕ
with_part bytes start part = take (length bytes) (overwritten bytes start part)

-- the body ends with the part from start on set to the last bytes of the result
abbrev pub LendsPart : MutBor (List ℕ) → ℕ → MutBor (List ℕ) → Fml
LendsPart body start result = Lends body_rows.the_row (Array u8 0) body result (with_part body.now start)

-- the page whose bytes from start on are these, as far as the data reaches
abbrev pub with_payload : Contents → ℕ → List ℕ → Contents
with_payload page start part = record page { bytes = with_part page.bytes start part }

-- the page ends with the payload from start on set to the last bytes of the result
abbrev pub LendsPayload : MutBor Contents → ℕ → MutBor (List ℕ) → Fml
LendsPayload page start result = Lends the_row (Array u8 0) page result (with_payload page.now start)

-- Whatever is written over the len bytes from start on, the page can be read and put into as before.
pub record StaysPage (page : Contents) (start len : ℕ) : Type 0 where
  pub length_stays :
      (part : List ℕ) → length part ≡ len → length (with_payload page start part).bytes ≡ length page.bytes
  pub blank_stays :
      (part : List ℕ) → length part ≡ len → is_blank (with_payload page start part).bytes ≡ is_blank page.bytes
  pub page_reads : (part : List ℕ) → length part ≡ len → IsPage page → IsPage (with_payload page start part)
  pub open_stays :
      (part : List ℕ)
      → length part ≡ len
      → EndsInRecord page.bytes
      → EndsInRecord (with_payload page start part).bytes
  pub last_stays :
      (part : List ℕ)
      → length part ≡ len
      → moment_of_last (records_of_page (with_payload page start part)) ≡ moment_of_last (records_of_page page)
  pub payloads_stay :
      (part : List ℕ)
      → length part ≡ len
      → (at size : ℕ)
      → IsPlaceIn page.bytes at size
      → IsPlaceIn (with_payload page start part).bytes at size

-- What an overwritten payload makes of its page: it still reads, the one record has these bytes, and all
-- others are as they were, in their places.
pub record PayloadWritten (page : Contents) (start : ℕ) (part : List ℕ) : Type 0 where
  pub bytes : (with_payload page start part).bytes ≡ overwritten page.bytes start part
  pub length_stays : length (with_payload page start part).bytes ≡ length page.bytes
  pub blank_stays : is_blank (with_payload page start part).bytes ≡ is_blank page.bytes
  pub page_reads : IsPage page → IsPage (with_payload page start part)
  pub open_stays : EndsInRecord page.bytes → EndsInRecord (with_payload page start part).bytes
  pub places_stay :
      (number at len : ℕ)
      → IsPlaceOf page.bytes number at len
      → IsPlaceOf (with_payload page start part).bytes number at len
  pub payloads_stay :
      (at len : ℕ) → IsPlaceIn page.bytes at len → IsPlaceIn (with_payload page start part).bytes at len
  pub last_stays :
      moment_of_last (records_of_page (with_payload page start part)) ≡ moment_of_last (records_of_page page)
  pub one_record :
      IsPage page
      → (number : ℕ)
      → IsPlaceOf page.bytes number start (length part)
      → IsReplacedAt number (records_of_page page) (records_of_page (with_payload page start part))
      (bytes_at start (length part) page.bytes) part
  pub last_record :
      IsPage page
      → start + length part ≡ length page.bytes
      → (front : List Record) (r : Record)
      → records_of_page page ≡ front ++ r ∷ []
      → records_of_page (with_payload page start part) ≡ front ++ record { moment = r.moment; bytes = part } ∷ []
