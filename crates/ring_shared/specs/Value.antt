-- What contracts see of the two ends of a running ring.
use Rattle.std.specs.Prelude.{◌≡◌, ℕ, List, Option}
use Rattle.atomic_table.specs.Seated.{TableId}
use Rattle.ring_frames.specs.declared.reader.TakeState.{TakeState}
use Rattle.ring_steps.specs.declared.rule.Shape.{Shape}
use Rattle.ring_frames.specs.Value.{FramesValue}
use Rattle.ring_steps.specs.Views.{Writing, Reading}

-- The reader's end: the ring's shape and its table, which both ends of one ring have; the reader's part of the ring,
-- with what it took and observed; and its fields: the page at each position, its own page, how far its take has got,
-- and the number of the oldest fill that isn't closed, as the last take answered it, if it found nothing.
pub record ReaderValue : Type 0 where
  pub shape : Shape
  pub table : TableId
  pub part : Reading
  pub order : List ℕ
  pub spare : ℕ
  pub at : TakeState
  pub empty_at : Option ℕ

-- The writer's end: the ring's shape and its table; the writer's part of the ring, and a fill below which it knows all
-- to be passed; and its fields: its frames, and the pages of the fills that are begun and not closed, the oldest first.
pub record WriterValue : Type 0 where
  pub shape : Shape
  pub table : TableId
  pub part : Writing
  pub passed : ℕ
  pub frames : FramesValue
  pub pages : List ℕ

-- the end of a ring stays the same one
abbrev pub SameWriter : WriterValue → WriterValue → Type 0
SameWriter before after = (after.shape ≡ before.shape) × (after.table ≡ before.table)
