-- A new reader's end.
use Rattle.std.specs.Prelude.{◌≡◌, None}
use Rattle.ring_steps.specs.declared.ends.ReaderSeat.{ReaderSeat}
use Rattle.ring_steps.specs.Ends.{reader_table}
use Rattle.ring_steps.specs.NewRings.{first_reading}
use Rattle.ring_shared.specs.Value.{ReaderValue}
use Rattle.ring_shared.specs.Takes.{IsReader}

-- The reader's end of a new ring, at this seat: it took nothing, and no take has answered.
pub record IsNewReader (seat : ReaderSeat) (v : ReaderValue) : Type 0 where
  pub shape_is : v.shape ≡ seat.shape
  pub table_is : v.table ≡ reader_table seat
  pub part_is : v.part ≡ first_reading seat.shape
  pub empty_at : v.empty_at ≡ None
  pub is : IsReader v
