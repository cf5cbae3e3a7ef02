-- What a run leaves of the ring of a CPU.
use Rattle.std.specs.Prelude.{◌≡◌, ℕ, map}
use Rattle.world_model.specs.World.{parcel_of}
use Rattle.ring_steps.specs.declared.rule.Shape.{Shape}
use Rattle.ring_steps.specs.Views.{Writing, Reading}
use Rattle.ring_shared.specs.Settling.{writing_of_settled, reading_of_settled, IsSettled}
use Rattle.trace_run.specs.readers.TakesMade.{reads_in, AreTakes}
use Rattle.trace_run.specs.declared.ledgers.ledger.Ledger.{Ledger}
use Rattle.trace_run.specs.ledgers.Audit.{taken_of}

-- the writer and the reader of the ledger's ring, as they were when it was settled
abbrev pub writer_in : Ledger → Writing
writer_in ledger = writing_of_settled ledger.settled

abbrev pub reader_in : Ledger → Reading
reader_in ledger = reading_of_settled ledger.settled

-- The ledger's parcels are what the reader of its ring took, all of it and in order, by takes and by nothing else, and
-- the ring is settled.
pub record IsLedger (cpu : ℕ) (shape : Shape) (ledger : Ledger) : Type 0 where
  pub parcels_are : taken_of ledger ≡ map (parcel_of cpu) (reader_in ledger).reader.taken
  pub takes : AreTakes (reads_in (reader_in ledger)) (reader_in ledger).reader.taken
  pub settled : IsSettled shape (writer_in ledger) (reader_in ledger) ledger.settled
