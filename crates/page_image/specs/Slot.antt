-- A slot: the bytes in which a page is, a header of six numbers and the page's data after it. Up to the data that is
-- committed they are the bytes of a parcel before which no records were missed.
use Rattle.std.specs.Prelude.{◌≡◌, ℕ, List, ◌++◌, length, drop}
use Rattle.trace_model.specs.Image.{le64}
use Rattle.trace_model.specs.ParcelBytes.{with_numbers}
use Rattle.page_image.specs.declared.slot.TheConstants.{SLOT_HEADER}

-- What a slot's header states: its CPU, the fill, the number of the page's first record, how many records were missed
-- before the page, the page's time, and how many bytes of data are committed.
pub record SlotHeader : Type 0 where
  pub cpu : ℕ
  pub fill : ℕ
  pub first : ℕ
  pub missed : ℕ
  pub time : ℕ
  pub commit : ℕ

-- the slot with this header and these bytes after it
abbrev pub slot_bytes : SlotHeader → List ℕ → List ℕ
slot_bytes header behind =
    with_numbers header.cpu header.fill header.first header.missed
    (le64 header.time ++ (le64 header.commit ++ behind))

-- the header of a slot in which no page was begun
abbrev pub no_header : SlotHeader
no_header = record { cpu = 0; fill = 0; first = 0; missed = 0; time = 0; commit = 0 }

-- A store into a slot makes this of its header, and nothing of what is after it.
pub record StoresHeader (old new : List ℕ) (stored : SlotHeader → SlotHeader) : Type 0 where
  pub header :
      (was : SlotHeader) (behind : List ℕ) → old ≡ slot_bytes was behind → new ≡ slot_bytes (stored was) behind
  pub behind_stays : drop SLOT_HEADER new ≡ drop SLOT_HEADER old
  pub length_stays : length new ≡ length old
