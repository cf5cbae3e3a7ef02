-- The frame on top, as the model has it.
use Rattle.std.proofs.Common.{◌≡◌, ◌≢◌, ℕ, List, [], ◌∷◌, refl, ◌∙◌}
use Rattle.trace_model.specs.Frames.{Frame}
use Rattle.trace_model.specs.Ring.{Core}
use Rattle.nested_writer.specs.declared.frame.Frame as stack
use Rattle.ring_frames.specs.declared.phase.Phase.{Phase}
use Rattle.ring_frames.specs.Value.{FramesValue, phase_of}
use Rattle.ring_frames.specs.AreFrames.{frames_in_phases, AreFrames}

-- the frame on top and those below it
pub record IsTopped (v : FramesValue) (c : Core) : Type 0 where
  pub frame : Frame
  pub below : List Frame
  pub is_top : c.frames ≡ frame ∷ below
  pub phase_is : frame.phase ≡ phase_of v.phase

top_in : (frames : List stack.Frame) (phase : Phase) (below : List Phase) → frames ≢ []
    → (frame : Frame) × (rest : List Frame) × (frames_in_phases frames (phase ∷ below) ≡ frame ∷ rest)
    × (frame.phase ≡ phase_of phase)
top_in [] phase below some = absurd (some refl)
top_in (f ∷ frames) phase below some = (_, _, refl, refl)

pub topped : (n size start : ℕ) (v : FramesValue) (c : Core) → AreFrames n size start v c → v.stack.frames ≢ []
    → IsTopped v c
topped n size start v c s some = let (frame, below, at, phase) = top_in v.stack.frames v.phase v.below some in
    record { frame = frame; below = below; is_top = s.frames_are ∙ at; phase_is = phase }
