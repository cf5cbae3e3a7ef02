-- The frame on top goes on in another phase, for the fill that it noted; meanwhile links may be set, and the head
-- may go on.
use Rattle.std.proofs.Common.{◌≡◌, ℕ, ◌<◌, ◌≤◌, List, ◌∷◌, length, Some, refl, sym, subst, arith}
use Rattle.trace_model.specs.Links.{Link}
use Rattle.trace_model.specs.Frames as model
use Rattle.trace_model.specs.Frames.{Frame, noted_fill}
use Rattle.trace_model.specs.Ring.{Core}
use Rattle.trace_model.specs.Steps.{Answer, steps, in_phase}
use Rattle.trace_model.proofs.steps.StepCases.{FrameStep, frame_step}
use Rattle.trace_model.proofs.steps.StepIs.{step_by}
use Rattle.ring_frames.specs.declared.answer.Answer as code
use Rattle.ring_frames.specs.declared.phase.Phase.{Phase}
use Rattle.ring_frames.specs.Value.{phase_of}
use Rattle.ring_frames.specs.Answers.{IsAnswerOf}
use Rattle.ring_frames.proofs.PhaseMoves.{goes_on}
use Rattle.ring_frames.proofs.Same.{same_frames}
use Rattle.ring_core.specs.Value.{CoreValue, frames_of}
use Rattle.ring_core.specs.IsCore.{HasStateOf, IsCore}
use Rattle.ring_core.specs.Steps.{IsStep}
use Rattle.ring_core.proofs.Stepped.{stepped}

-- The value in this phase, with these links, shows the state in the same; and the head may have gone on.
pub shows_moved : (n size start : ℕ) (v : CoreValue) (c : Core) (frame : Frame) (below : List Frame) (to : Phase)
    (links shown : List Link) (head o : ℕ) → HasStateOf n size start v c → c.frames ≡ frame ∷ below
    → noted_fill (phase_of v.phase) ≡ Some o
    → noted_fill (phase_of to) ≡ Some o
    → links ≡ shown
    → length shown ≡ n
    → c.head ≤ head
    → HasStateOf n size start (record v { phase = to; links = shown })
    (record c { frames = record frame { phase = phase_of to } ∷ below; links = links; head = head })
shows_moved n size start v c frame below to links shown head o s top was is same wide later = assumption (
  same_frames n size start (record (frames_of v) { phase = to }) (in_phase c frame below (phase_of to))
      (record c { frames = record frame { phase = phase_of to } ∷ below; links = links; head = head })
      (goes_on (frames_of v) to o record { before = was; behind = is } n size start c frame below s.frames top) refl
      refl refl refl,
  (λ (f : ℕ) (low : head ≤ f) (high : f < c.done). s.closed f (omega arith) high),
  s,
)

-- only the phase changes
pub shows_phase : (n size start : ℕ) (v : CoreValue) (c : Core) (frame : Frame) (below : List Frame) (to : Phase)
    (o : ℕ) → HasStateOf n size start v c → c.frames ≡ frame ∷ below
    → noted_fill (phase_of v.phase) ≡ Some o
    → noted_fill (phase_of to) ≡ Some o
    → HasStateOf n size start (record v { phase = to })
    (record c { frames = record frame { phase = phase_of to } ∷ below })
shows_phase n size start v c frame below to o s top was is =
    shows_moved n size start v c frame below to c.links v.links c.head o s top was is s.links_are s.positions
    (omega arith)

-- ---- a step of the frame on top

pub top_steps : (n size start : ℕ) (v new : CoreValue) (c : Core) (frame : Frame) (below : List Frame)
    (phase : model.Phase) (result : code.Answer) (answer : Answer) (after : Core) → IsCore n size start v c
    → c.frames ≡ frame ∷ below → frame.phase ≡ phase
    → FrameStep n size c frame below phase answer after
    → IsAnswerOf size result answer
    → HasStateOf n size start new after
    → IsStep n size start c steps result new
top_steps n size start v new c frame below phase result answer after core top at step reports shows =
    stepped n size start v new c steps result answer after core
    (step_by (frame_step frame below refl top
    (subst (λ (p : model.Phase). FrameStep n size c frame below p answer after) (sym at) step))) reports
    shows
