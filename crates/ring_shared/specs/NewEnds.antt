-- The two ends of a new ring.
use Rattle.std.specs.Prelude.{◌≡◌, None}
use Rattle.ring_steps.specs.declared.rule.Shape.{Shape}
use Rattle.ring_steps.specs.NewRings.{first_writing, first_reading}
use Rattle.ring_shared.specs.Value.{WriterValue, ReaderValue}
use Rattle.ring_shared.specs.Calls.{IsWriter}
use Rattle.ring_shared.specs.Takes.{IsReader}

-- Both are ends of one ring of this shape, and each has its part of the model's new ring; no take has answered.
pub record AreNewEnds (shape : Shape) (writer : WriterValue) (reader : ReaderValue) : Type 0 where
  pub one_table : reader.table ≡ writer.table
  pub writer_shape : writer.shape ≡ shape
  pub reader_shape : reader.shape ≡ shape
  pub writing_is : writer.part ≡ first_writing shape
  pub reading_is : reader.part ≡ first_reading shape
  pub no_answer : reader.empty_at ≡ None
  pub is_writer : IsWriter writer
  pub is_reader : IsReader reader
