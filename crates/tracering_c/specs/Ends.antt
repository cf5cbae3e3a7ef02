-- What the two ends of a ring keep between calls.
use Rattle.std.specs.Prelude.{◌≡◌, ◌+◌, ◌^◌, ◌<◌, ◌≤◌, length, None, IfSome, IsSomeAnd}
use Rattle.trace_model.specs.declared.limits.TheConstants.{MAX_CPUS, MAX_SIZE}
use Rattle.page_image.specs.Contents.{IsPage, records_of_page}
use Rattle.ring_shared.specs.Value.{WriterValue, ReaderValue}
use Rattle.ring_shared.specs.Takes.{IsReader}
use Rattle.tracering_c.specs.declared.ends.Unadded.{Unadded}
use Rattle.tracering_c.specs.declared.ends.HeldReader.{HeldReader}

-- The page is one of the ring's size, and can be a parcel. It was taken last: the reader doesn't know of an end.
pub record IsUnadded (reader : ReaderValue) (unadded : Unadded) : Type 0 where
  pub page : IsPage unadded.page
  pub size_is : unadded.page.size ≡ reader.shape.size
  pub numbers_fit : unadded.page.first + length (records_of_page unadded.page) < 2 ^ 64
  pub missed_fit : unadded.missed ≤ unadded.page.first
  pub taken_last : reader.empty_at ≡ None

-- The CPU is one, and the reader is one, of a ring of limited size. Either there is a page that wasn't added, or the
-- body that the next take gives to the ring has the ring's data size.
pub record IsHeldReader (end : HeldReader) : Type 0 where
  pub cpu : end.cpu.0 < MAX_CPUS
  pub reader : IsReader end.reader
  pub limit : end.reader.shape.size ≤ MAX_SIZE
  pub unadded : IfSome end.unadded (IsUnadded end.reader)
  pub body : end.unadded ≡ None → IsSomeAnd end.body (λ body. length body ≡ end.reader.shape.size)

-- Both are ends of one ring.
pub record AreOfOneRing (writer : WriterValue) (reader : ReaderValue) : Type 0 where
  pub table_is : reader.table ≡ writer.table
  pub shape_is : reader.shape ≡ writer.shape
