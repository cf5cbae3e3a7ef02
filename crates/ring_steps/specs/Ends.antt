-- What contracts see of the two seats: the part of the ring that each knows, and the table at which both sit.
use Rattle.std.specs.Prelude.{◌≡◌, ◌≤◌, ℕ, List}
use Rattle.atomic_table.specs.Seated.{TableId}
use Rattle.ring_steps.specs.declared.ends.WriterSeat.{WriterSeat}
use Rattle.ring_steps.specs.declared.ends.ReaderSeat.{ReaderSeat}
use Rattle.ring_steps.specs.declared.ends.ReceiptSeat.{ReceiptSeat}
use Rattle.ring_steps.specs.declared.settling.SettledSeats.{SettledSeats}
use Rattle.ring_steps.specs.Made.{WriterMade}
use Rattle.ring_steps.specs.Views.{Writing, Reading, passed, reading, made_seen}

-- the writer's part, as of its last step on a word or note of what it did in private
abbrev pub writing_in : WriterSeat → Writing
writing_in writer = writer.ghost_part.now

-- below which each fill is passed, as the writer knows
abbrev pub passed_in : WriterSeat → ℕ
passed_in writer = passed writer.seat.me.0

-- the reader's part
abbrev pub reading_in : ReaderSeat → Reading
reading_in reader = reading reader.seat.me.0

-- the steps that a receipt has
abbrev pub made_in : ReceiptSeat → List WriterMade
made_in receipt = made_seen receipt.seat.me.0

-- both parts, of the seats that were joined
abbrev pub writing_settled : SettledSeats → Writing
writing_settled seats = seats.ghost_part.now

abbrev pub reading_settled : SettledSeats → Reading
reading_settled seats = reading seats.seat.me.0

-- the table of a ring; seats that were made together have the same one, with the writer's receipts, and no others do
abbrev pub writer_table : WriterSeat → TableId
writer_table writer = writer.seat.table_id

abbrev pub reader_table : ReaderSeat → TableId
reader_table reader = reader.seat.table_id

abbrev pub receipt_table : ReceiptSeat → TableId
receipt_table receipt = receipt.seat.table_id

-- the seat stays one of the same ring, and knows at least as many fills to be passed
pub record SameSeat (old new : WriterSeat) : Type 0 where
  pub shape : new.shape ≡ old.shape
  pub table : writer_table new ≡ writer_table old
  pub knows : passed_in old ≤ passed_in new

-- the reader's seat stays one of the same ring
pub record SameReaderSeat (old new : ReaderSeat) : Type 0 where
  pub shape : new.shape ≡ old.shape
  pub table : reader_table new ≡ reader_table old
