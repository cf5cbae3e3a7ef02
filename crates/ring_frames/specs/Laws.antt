-- The laws of a writer's frames, as statements: each is a clause of a function of src/laws.rt.
use Rattle.std.specs.Prelude.{◌≡◌, ℕ}
use Rattle.trace_model.specs.Ring.{Core}
use Rattle.ring_frames.specs.Value.{FramesValue}
use Rattle.ring_frames.specs.AreFrames.{AreFrames}

-- the frames of a state are those of each other one with the same frames, history and counts
abbrev pub SameFrames : Type 0
SameFrames = (n size start : ℕ) (v : FramesValue) (c other : Core)
    → AreFrames n size start v c
    → other.frames ≡ c.frames
    → other.history ≡ c.history
    → other.done ≡ c.done
    → other.opened ≡ c.opened
    → AreFrames n size start v other
