-- What contracts see of a writer's frames.
use Rattle.std.specs.Prelude.{List}
use Rattle.trace_model.specs.Frames as model
use Rattle.nested_writer.specs.Stack.{Stack}
use Rattle.ring_frames.specs.declared.phase.Role.{Role}
use Rattle.ring_frames.specs.declared.phase.Role.TheVariants.{Owner, Helper}
use Rattle.ring_frames.specs.declared.phase.Phase.{Phase}
use Rattle.ring_frames.specs.declared.phase.Phase.TheVariants.{Idle, Looking, Claiming, LookingNext, Marking, Clearing}
use Rattle.ring_frames.specs.declared.phase.Phase.TheVariants.{Opening, Releasing, Wishing}

-- The writers' stack; and how far its frames have come with the ring, the top one and those below it.
pub record FramesValue : Type 0 where
  pub stack : Stack
  pub phase : Phase
  pub below : List Phase

-- ---- phases as the model has them

abbrev pub role_of : Role → model.Role
role_of Owner = model.owner
role_of Helper = model.helper

abbrev pub phase_of : Phase → model.Phase
phase_of Idle = model.idle
phase_of (Looking noted) = model.looking noted
phase_of (Claiming noted page) = model.claiming noted page
phase_of (LookingNext role noted page) = model.looking_next (role_of role) noted page
phase_of (Marking role noted page next) = model.marking (role_of role) noted page next
phase_of (Clearing noted page) = model.clearing noted page
phase_of (Opening noted page) = model.opening noted page
phase_of Releasing = model.releasing
phase_of Wishing = model.wishing
