-- What is lost of a writer that is freed.
use Rattle.std.specs.Prelude.{◌≡◌, ◌≢◌, ℕ, ℤ, ◌+◌, [], None, length}
use Rattle.trace_model.specs.Steps as model
use Rattle.trace_model.specs.History.{reserved_records}
use Rattle.ring_shared.specs.Value.{WriterValue}
use Rattle.tracering_c.specs.Calls.{BeginsSo, FinishesSo}
use Rattle.tracering_c.specs.Peeks.{first_newest}

-- A close is begun, and finished.
pub record ClosesSo (old new : WriterValue) : Type 0 where
  pub begun : WriterValue
  pub begun_code : ℤ
  pub code : ℤ
  pub begins : BeginsSo old model.pushes_close None begun_code begun
  pub finishes : FinishesSo begun code new

-- The writer is dropped as `last`: if it has no frame, its page that is written is closed first, as by begin_close and
-- finish. What is lost is how many records have a number then, and are in no closed fill.
pub record FreesSo (old : WriterValue) (lost : ℕ) : Type 0 where
  pub last : WriterValue
  pub closes : old.part.frames ≡ [] → ClosesSo old last
  pub stays : old.part.frames ≢ [] → last ≡ old
  pub lost_is : lost + first_newest last ≡ length (reserved_records last.part.history)
