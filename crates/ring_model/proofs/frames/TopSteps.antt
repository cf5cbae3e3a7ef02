-- A step is that of the frame on top, in its phase.
use Rattle.std.proofs.Common.{◌≡◌, ℕ, List, ◌∷◌}
use Rattle.trace_model.specs.Frames.{Phase, Frame}
use Rattle.trace_model.specs.Ring.{Core}
use Rattle.trace_model.specs.Steps.{steps, Answer, Step}
use Rattle.trace_model.proofs.steps.StepCases.{FrameStep}
use Rattle.trace_model.proofs.steps.EventSteps.{top_step}

module _ (n size : ℕ) (c : Core) (frame : Frame) (below : List Frame) (phase : Phase) (answer : Answer) (after : Core)
    (top : c.frames ≡ frame ∷ below) (at : frame.phase ≡ phase) where
  pub top_stepped : Step n size c steps answer after → FrameStep n size c frame below phase answer after
  top_stepped step = top_step frame below phase top at step
