-- What the calls of C make of what a handle holds.
use Rattle.std.specs.Prelude.{◌≡◌, ℤ, Option, Some, None, IfSome, IsSomeAnd}
use Rattle.ring_shared.specs.Value.{WriterValue, SameWriter}
use Rattle.ring_shared.specs.Calls.{IsWriter}
use Rattle.ring_shared.specs.Takes.{SameRing}
use Rattle.library_values.specs.declared.listed_collector.listed.ListedCollector.{ListedCollector}
use Rattle.library_values.specs.declared.listed_fleet.listed.ListedFleet.{ListedFleet}
use Rattle.tracering_c.specs.declared.codes.TheConstants.{ABSENT}
use Rattle.tracering_c.specs.declared.ends.HeldReader.{HeldReader}
use Rattle.tracering_c.specs.declared.handle.WriterHandle.{WriterHandle}
use Rattle.tracering_c.specs.declared.handle.ReaderHandle.{ReaderHandle}
use Rattle.tracering_c.specs.declared.handle.CollectorHandle.{CollectorHandle}
use Rattle.tracering_c.specs.declared.handle.FleetHandle.{FleetHandle}
use Rattle.tracering_c.specs.Held.{writer_of, reader_of, collector_of, fleet_of}
use Rattle.tracering_c.specs.Ends.{IsHeldReader}

-- If the handle has a writer, it is one of a ring.
abbrev pub IsWriterHandle : WriterHandle → Type 0
IsWriterHandle handle = IfSome (writer_of handle.held.value) (λ end. IsWriter end.writer)

-- If the handle has a reader, it is one of a ring.
abbrev pub IsReaderHandle : ReaderHandle → Type 0
IsReaderHandle handle = IfSome (reader_of handle.held.value) (λ end. IsHeldReader end)

-- A call on a handle that has nothing says so, and changes nothing of it.
pub record SaysAbsent {E H : Type 0} (held : Option E) (code : ℤ) (old new : H) : Type 0 where
  -- the answer is ABSENT
  pub code_is : held ≡ None → code ≡ ABSENT
  -- the handle is as it was
  pub stays : held ≡ None → new ≡ old

-- If there was one, there is one now, and this holds of the two.
abbrev pub Becomes : {E : Type 0} → (old new : Option E) → (E → E → Type 0) → Type 0
Becomes {E} old new so = (was : E) → old ≡ Some was → IsSomeAnd new (λ is. so was is)

-- What a call makes of the writer that a handle has, if it has one.
pub record OnWriter (old new : WriterHandle) (so : WriterValue → WriterValue → Type 0) : Type 0 where
  -- the handle has a writer afterwards, and this holds of the writer before and of the one afterwards
  pub is : Becomes (writer_of old.held.value) (writer_of new.held.value) (λ was is. so was.writer is.writer)
  -- it is still the writer of the same ring
  pub ring : Becomes (writer_of old.held.value) (writer_of new.held.value) (λ was is. SameWriter was.writer is.writer)
  -- its parcels are still of the same CPU
  pub cpu : Becomes (writer_of old.held.value) (writer_of new.held.value) (λ was is. is.cpu ≡ was.cpu)
  -- the next call is made on a writer of a ring, too
  pub writer : IsWriterHandle new

-- What a call makes of the reader that a handle has, if it has one.
pub record OnReader (old new : ReaderHandle) (so : HeldReader → HeldReader → Type 0) : Type 0 where
  -- the handle has a reader afterwards, and this holds of the reader before and of the one afterwards
  pub is : Becomes (reader_of old.held.value) (reader_of new.held.value) so
  -- it is still the reader of the same ring
  pub ring : Becomes (reader_of old.held.value) (reader_of new.held.value) (λ was is. SameRing was.reader is.reader)
  -- its parcels are still of the same CPU
  pub cpu : Becomes (reader_of old.held.value) (reader_of new.held.value) (λ was is. is.cpu ≡ was.cpu)
  -- the next call is made on a reader of a ring, too
  pub reader : IsReaderHandle new

-- What a call makes of the collector that a handle has, if it has one.
pub record OnCollector (old new : CollectorHandle) (so : ListedCollector → ListedCollector → Type 0) : Type 0 where
  -- the handle has a collector afterwards, and this holds of the collector before and of the one afterwards
  pub is : Becomes (collector_of old.held.value) (collector_of new.held.value) (λ was is. so was.listed is.listed)

-- What a call makes of the fleet that a handle has, if it has one.
pub record OnFleet (old new : FleetHandle) (so : ListedFleet → ListedFleet → Type 0) : Type 0 where
  -- the handle has a fleet afterwards, and this holds of the fleet before and of the one afterwards
  pub is : Becomes (fleet_of old.held.value) (fleet_of new.held.value) (λ was is. so was.listed is.listed)
