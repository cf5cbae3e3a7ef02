-- How far the frame on top is from its end, by what the writer knows.
use Rattle.std.specs.Prelude.{◌≡◌, ℕ, ◌<◌, List, ◌∷◌, length, None}
use Rattle.trace_model.specs.Frames.{number_of, Frame}
use Rattle.ring_model.specs.WriterRanks.{writer_rank}
use Rattle.ring_shared.specs.Value.{WriterValue}

-- at most 3 times the ring's pages and 52
abbrev pub rank_of : WriterValue → ℕ
rank_of v = writer_rank v.shape.pages v.passed v.part.done v.part.opened v.part.history v.part.frames

-- after a step, the frame that made it, and which hadn't reserved, is gone or nearer to its end
abbrev pub IsNearer : WriterValue → WriterValue → Type 0
IsNearer old new = (frame : Frame) (below : List Frame)
    → old.part.frames ≡ frame ∷ below
    → number_of frame.state ≡ None
    → length new.part.frames ≡ length old.part.frames
    → rank_of new < rank_of old
