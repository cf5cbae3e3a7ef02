-- What contracts see of a reader's end with its parcels.
use Rattle.std.specs.Prelude.{◌≡◌, ℕ, ◌<◌, ◌≤◌, ◌%◌, List, map, length, Option, IfSome}
use Rattle.trace_model.specs.declared.limits.TheConstants.{MAX_CPUS, MIN_SIZE, MAX_SIZE}
use Rattle.world_model.specs.World.{parcel_of}
use Rattle.page_numbers.specs.Parcels.{ParcelValue, as_parcels}
use Rattle.ring_shared.specs.Value.{ReaderValue}
use Rattle.ring_shared.specs.Takes.{IsReader}
use Rattle.trace_run.specs.readers.TakesMade.{reads_in, AreTakes}

-- The CPU, the bytes of data of a page of its ring, the ring's reader, the parcels that were taken, in order, and the
-- body for the next take, if there is one yet.
pub record ReaderEndValue : Type 0 where
  pub cpu : ℕ
  pub size : ℕ
  pub reader : ReaderValue
  pub taken : List ParcelValue
  pub body : Option (List ℕ)

-- The parcels are what the reader took, all of it and in order, and all that it did with its ring are takes, which
-- answered these pages; the body for the next take fits.
pub record IsReaderEnd (v : ReaderEndValue) : Type 0 where
  pub known : v.cpu < MAX_CPUS
  pub is : IsReader v.reader
  pub taken_are : as_parcels v.taken ≡ map (parcel_of v.cpu) v.reader.part.reader.taken
  pub takes : AreTakes (reads_in v.reader.part) v.reader.part.reader.taken
  pub size_is : v.reader.shape.size ≡ v.size
  pub small : MIN_SIZE ≤ v.size
  pub large : v.size ≤ MAX_SIZE
  pub words : v.size % 4 ≡ 0
  pub body_fits : IfSome v.body (λ back. length back ≡ v.size)
