-- What it means that the frame on top, which has a record to reserve, makes some steps of a page turn.
use Rattle.std.specs.Prelude.{◌≡◌, ◌≤◌, List, ◌∷◌}
use Rattle.trace_model.specs.Frames.{Frame}
use Rattle.ring_model.specs.FrameOutcomes.{IsReserving}
use Rattle.ring_frames.specs.Answers.{KeepsPayloads}
use Rattle.ring_shared.specs.Value.{WriterValue, SameWriter}
use Rattle.ring_shared.specs.Calls.{AreWriterFields}
use Rattle.ring_shared.specs.Nearer.{rank_of}
use Rattle.ring_shared.specs.Finishing.{MakesSteps}

-- the frame on top has a record to reserve
abbrev pub IsReservingTop : List Frame → Type 0
IsReservingTop frames =
    (frame : Frame) × (below : List Frame) × (frames ≡ frame ∷ below) × IsReserving frame.kind frame.state

-- The frame on top makes steps, some or none, each of which is answered `Going`; it is still on the stack, with the
-- same record to be reserved, and is no further from its end; and all payloads stay.
pub record TurnsOn (old new : WriterValue) : Type 0 where
  pub ring : SameWriter old new
  pub writer : AreWriterFields new
  pub goes : MakesSteps old.shape old.part new.part
  pub stands : (frame : Frame) (below : List Frame)
      → old.part.frames ≡ frame ∷ below
      → (next : Frame)
      × (new.part.frames ≡ next ∷ below)
      × (next.kind ≡ frame.kind)
      × IsReserving next.kind next.state
  pub nearer : rank_of new ≤ rank_of old
  pub payloads : KeepsPayloads old.frames.stack new.frames.stack
