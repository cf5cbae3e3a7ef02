-- What a step of the writer on one word owes, and what it makes of the seat.
use Rattle.std.specs.Prelude.{◌≡◌, ℕ}
use Rattle.atomic_table.specs.Table.{Allows}
use Rattle.ring_steps.specs.declared.rule.Shape.{Shape}
use Rattle.ring_steps.specs.declared.ends.WriterSeat.{WriterSeat}
use Rattle.ring_steps.specs.Views.{writing}
use Rattle.ring_steps.specs.Shown.{Shows}
use Rattle.ring_steps.specs.Seats.{SeatState, IsWriting}
use Rattle.ring_steps.specs.Ends.{writing_in, writer_table}
use Rattle.ring_steps.specs.Paging.{IsWriterReached}

-- the seat stays the writer's, and its part is one that steps reach
pub record StaysWriting (shape : Shape) (after : SeatState) : Type 0 where
  pub seat : IsWriting after
  pub reached : IsWriterReached shape (writing after.0)

-- The rule of the ring's table allows the seat to make f of this word, with what the step then shows; and by that the
-- seat stays the writer's.
pub record IsWriterMove (shape : Shape) (me : SeatState) (word : ℕ) (f : ℕ → ℕ) (reports : ℕ → SeatState → Type 0)
    : Type 0 where
  pub allowed : (slots id : ℕ) → Allows (Shows shape.pages shape.size shape.start) slots id me word f reports
  pub stays : (found : ℕ) (after : SeatState) → reports found after → StaysWriting shape after

-- The step is made, and shows this: the seat stays one of the same ring, and nothing is noted beside what it knows.
pub record HasStepped (old new : WriterSeat) (reports : SeatState → Type 0) : Type 0 where
  pub shape : new.shape ≡ old.shape
  pub table : writer_table new ≡ writer_table old
  pub known : writing_in new ≡ writing new.seat.me.0
  pub reported : reports new.seat.me
