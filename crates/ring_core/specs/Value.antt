-- What contracts see of a ring as a value.
use Rattle.std.specs.Prelude.{ℕ, List, Option}
use Rattle.trace_model.specs.Links.{Link}
use Rattle.page_image.specs.Contents.{Contents}
use Rattle.nested_writer.specs.Stack.{Stack}
use Rattle.ring_frames.specs.declared.phase.Phase.{Phase}
use Rattle.ring_frames.specs.Value.{FramesValue}
use Rattle.ring_frames.specs.declared.reader.TakeState.{TakeState}

-- The writers' stack; how far its frames have come with the ring, the top one and those below it; the link into each
-- position, and that of the spare; the page at each position, and the spare; the pages at home, by their numbers; the
-- reader's wish, and the reader.
pub record CoreValue : Type 0 where
  pub stack : Stack
  pub phase : Phase
  pub below : List Phase
  pub links : List Link
  pub spare_link : Link
  pub order : List ℕ
  pub spare : ℕ
  pub homes : List (Option Contents)
  pub wish : ℕ
  pub reader : TakeState

-- the writers' frames
abbrev pub frames_of : CoreValue → FramesValue
frames_of v = record { stack = v.stack; phase = v.phase; below = v.below }

-- the ring with these frames
abbrev pub with_frames : CoreValue → FramesValue → CoreValue
with_frames v frames = record v { stack = frames.stack; phase = frames.phase; below = frames.below }
