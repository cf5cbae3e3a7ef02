-- What ties a writer's frames to a state of the ring's model, which no field keeps.
use Rattle.std.specs.Prelude.{◌≡◌, ℕ, List, [], ◌∷◌, length, Some}
use Rattle.trace_model.specs.Frames.{Frame, noted_fill}
use Rattle.trace_model.specs.Ring.{Core}
use Rattle.ring_model.specs.Reached.{IsReached}
use Rattle.nested_writer.specs.declared.frame.Purpose.{Purpose}
use Rattle.nested_writer.specs.declared.frame.Purpose.TheVariants.{Record, Close}
use Rattle.nested_writer.specs.declared.frame.Progress.{Progress}
use Rattle.nested_writer.specs.declared.frame.Progress.TheVariants.{Waiting, Through, Reserved, Left}
use Rattle.nested_writer.specs.declared.frame.Frame as stack
use Rattle.nested_writer.specs.Stack.{opened, kind_of, state_of}
use Rattle.nested_writer.specs.IsStack.{IsStack}
use Rattle.ring_frames.specs.declared.phase.Phase.{Phase}
use Rattle.ring_frames.specs.declared.phase.Phase.TheVariants.{Idle}
use Rattle.ring_frames.specs.Value.{FramesValue, phase_of}

-- the frames of the model: those of the stack, each in its phase
abbrev pub frames_in_phases : List stack.Frame → List Phase → List Frame
frames_in_phases [] phases = []
frames_in_phases (f ∷ frames) [] = []
frames_in_phases (f ∷ frames) (phase ∷ phases) =
    record { kind = kind_of f.purpose; state = state_of f.progress; phase = phase_of phase }
    ∷ frames_in_phases frames phases

-- a phase is kept for each frame below the one on top
abbrev pub AreBelow : List stack.Frame → List Phase → Type 0
AreBelow [] below = below ≡ []
AreBelow (top ∷ frames) below = length below ≡ length frames

-- A frame that has noted a fill to open noted it in the stack too; a close frame that has noted nothing hasn't been
-- allotted anything yet, and none stays once it is through.
abbrev pub NotedAlike : Purpose → Progress → Phase → Type 0
NotedAlike purpose (Through noted) phase = ⊥
NotedAlike purpose (Reserved slot) phase = phase ≡ Idle
NotedAlike (Record moment len) (Waiting noted) phase = (o : ℕ) → noted_fill (phase_of phase) ≡ Some o → noted ≡ Some o
NotedAlike Close (Waiting noted) phase = noted ≡ noted_fill (phase_of phase)
NotedAlike purpose (Left noted) phase = (o : ℕ) → noted_fill (phase_of phase) ≡ Some o → noted ≡ Some o

abbrev pub AreNotedAlike : List stack.Frame → List Phase → Type 0
AreNotedAlike [] phases = Unit {0}
AreNotedAlike (f ∷ frames) [] = ⊥
AreNotedAlike (f ∷ frames) (phase ∷ phases) = NotedAlike f.purpose f.progress phase × AreNotedAlike frames phases

-- The frames are those of a state of the model, in a ring of n positions and pages of this size whose first fill has
-- the number start: the writers' stack is what the state's history leaves, in its phases. Of the state this concerns
-- only the frames, the history and the counts of closed and begun fills, so nothing that the reader stores.
pub record AreFrames (n size start : ℕ) (v : FramesValue) (c : Core) : Type 0 where
  pub pages_is : v.stack.pages ≡ n
  pub size_is : v.stack.size ≡ size
  pub stack_is : IsStack start c.history v.stack
  pub done_is : c.done ≡ v.stack.done
  pub opened_is : c.opened ≡ opened v.stack
  pub frames_are : c.frames ≡ frames_in_phases v.stack.frames (v.phase ∷ v.below)
  pub below_are : AreBelow v.stack.frames v.below
  pub noted : AreNotedAlike v.stack.frames (v.phase ∷ v.below)

-- so of a state that steps from a new ring reach
pub record HasFrames (n size start : ℕ) (v : FramesValue) (c : Core) : Type 0 where
  pub reached : IsReached n size start c
  pub are : AreFrames n size start v c
