-- What each step of a ring keeps of its stack of frames, whatever its links are.
-- docs/formats/ring.md, "Writer frames".
use Rattle.std.specs.Prelude.{◌≡◌, ◌≢◌, ℕ, ◌+◌, ◌≤◌, List, [], ◌∷◌, length}
use Rattle.trace_model.specs.declared.limits.TheConstants.{MAX_FRAMES}
use Rattle.trace_model.specs.Frames.{Purpose, for_record, for_close, Progress, waiting, reserved, left, Phase, idle}
use Rattle.trace_model.specs.Frames.{releasing, wishing, Frame}
use Rattle.trace_model.specs.Ring.{Core}

abbrev pub IsForRecord : Purpose → Type 0
IsForRecord (for_record moment len) = Unit {0}
IsForRecord for_close = ⊥

-- The phases of a frame in its state. Only a record frame has reserved, and then it has noted nothing; a frame
-- closes fills and looks for a wish only when it has left, and then it doesn't rest.
abbrev pub MayBeIn : Purpose → Progress → Phase → Type 0
MayBeIn kind waiting phase = (phase ≢ releasing) × (phase ≢ wishing)
MayBeIn kind (reserved number) phase = IsForRecord kind × (phase ≡ idle)
MayBeIn kind left phase = phase ≢ idle

-- of these frames, the top first, each is in a phase of its state, and none has left but the one at the bottom
abbrev pub FramesAgree : List Frame → Type 0
FramesAgree [] = Unit {0}
FramesAgree (frame ∷ below) =
    MayBeIn frame.kind frame.state frame.phase
    × (frame.state ≡ left → below ≡ [])
    × FramesAgree below

-- At most MAX_FRAMES frames are on the stack, and they agree; if it is empty, all fills that are begun are closed but
-- the tail.
pub record StackAt (done opened : ℕ) (frames : List Frame) : Type 0 where
  pub few : length frames ≤ MAX_FRAMES
  pub agree : FramesAgree frames
  pub at_rest : frames ≡ [] → done + 1 ≡ opened

abbrev pub StackKept : Core → Type 0
StackKept c = StackAt c.done c.opened c.frames
