-- Captures of a ring.
use Rattle.std.specs.Prelude.{◌≡◌, ℕ, suc, ◌-◌, ◌^◌, ◌<◌, ◌≤◌, List, [], ◌∷◌, ◌++◌, length, ⊤, Some}
use Rattle.std.specs.List.{slice_get, AllByRecursion}
use Rattle.trace_model.specs.Order.{first_moment_or, NeverFalls, IsWritable}
use Rattle.trace_model.specs.Words.{page_encoding}
use Rattle.trace_model.specs.Partition.{Piece, first_of}
use Rattle.trace_model.specs.Parcel.{Parcel}
use Rattle.trace_model.specs.ParcelBytes.{AgreesWith}
use Rattle.trace_model.specs.Image.{unknown, image_of, missed_reported}
use Rattle.capture.specs.Pages.{Page, intact, damaged, parcels_from}

-- The pages are the pieces of a partition, in their order. Each that reads states of what its piece skips: nothing, if
-- none was; else their number, or that there were some. Of a damaged page nothing is known.
abbrev pub AreReported : List Page → List Piece → Type 0
AreReported [] [] = ⊤
AreReported [] (p ∷ pieces) = ⊥
AreReported (page ∷ pages) [] = ⊥
AreReported (intact read ∷ pages) (p ∷ pieces) =
    (read.records ≡ p.records) × AgreesWith read.missed p.skipped × AreReported pages pieces
AreReported (damaged cause ∷ pages) (p ∷ pieces) = AreReported pages pieces

-- each page reads, and states the number of records that were lost before it, if there were some
abbrev pub HaveCounts : List Page → Type 0
HaveCounts [] = ⊤
HaveCounts (intact read ∷ pages) = (read.missed ≡ unknown → ⊥) × HaveCounts pages
HaveCounts (damaged cause ∷ pages) = ⊥

-- The parcel has the records of the piece at the place of its page, under numbers that are no higher than theirs; and
-- no more numbers are missing before them than the piece skips.
pub record IsAtMost (parcel : Parcel) (pieces : List Piece) : Type 0 where
  pub p : Piece
  pub first : ℕ
  pub piece_is : slice_get pieces parcel.fill ≡ Some p
  pub first_is : first_of pieces parcel.fill ≡ Some first
  pub records_are : parcel.records ≡ p.records
  pub no_later : parcel.first ≤ first
  pub no_more : parcel.missed ≤ p.skipped

-- the parcels of several CPUs' captures, that of CPU `cpu` first
abbrev pub parcels_of_captures : (cpu : ℕ) → List (List Page) → List Parcel
parcels_of_captures cpu [] = []
parcels_of_captures cpu (pages ∷ captures) = parcels_from cpu 0 0 pages ++ parcels_of_captures (suc cpu) captures

-- An image with `size` bytes of data can be written of the piece: a writer can put its records, their moments never
-- fall, their encoding is short enough, and fewer than 2^64 - 1 records were lost.
pub record FitsImage (size : ℕ) (p : Piece) : Type 0 where
  pub never_falls : NeverFalls p.records
  pub writable : AllByRecursion IsWritable p.records
  pub data_fits : length (page_encoding p.records) ≤ size
  pub missed_fits : p.skipped < 2 ^ 64 - 1

-- The images that are written of pieces, the first of which is at the place `fill`, one after the other. The time of a
-- page is the moment of its first record; `times` has that of a page without records, by its place.
abbrev pub images_from : (times : ℕ → ℕ) (size fill : ℕ) → List Piece → List ℕ
images_from times size fill [] = []
images_from times size fill (p ∷ pieces) =
    image_of (first_moment_or (times fill) p.records) (page_encoding p.records) p.skipped size
    ++ images_from times size (suc fill) pieces

-- the page that is read of a piece's image
abbrev pub page_written : (size : ℕ) → Piece → Page
page_written size p =
    intact record { missed = missed_reported (page_encoding p.records) p.skipped size; records = p.records }
