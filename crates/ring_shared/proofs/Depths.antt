-- The writer's part has as many frames as its stack; and they have one top.
use Rattle.std.proofs.Common.{◌≡◌, List, ◌∷◌, length, sym, ap, ◌∙◌, subst}
use Rattle.trace_model.specs.Frames.{Frame}
use Rattle.ring_model.specs.FrameOutcomes.{IsReserving, IsLeaving}
use Rattle.ring_frames.proofs.Pushed.{as_many}
use Rattle.ring_steps.specs.Views.{Writing}
use Rattle.ring_shared.specs.Value.{WriterValue}
use Rattle.ring_shared.specs.Calls.{AreWriterFields}

pub depth_is : (v : WriterValue) → AreWriterFields v → length v.frames.stack.frames ≡ length v.part.frames
depth_is v w =
    sym (as_many v.frames.stack.frames v.frames.phase v.frames.below w.frames_are.below_are)
    ∙ ap (length {A = Frame}) (sym w.frames_are.frames_are ∙ ap (λ (p : Writing). p.frames) w.part_is)

same_top : (frames : List Frame) (frame other : Frame) (below others : List Frame) → frames ≡ frame ∷ below
    → frames ≡ other ∷ others → frame ≡ other
same_top frames frame other below others one two = let both : frame ∷ below ≡ other ∷ others = sym one ∙ two in cc

pub reserving_top : (frames : List Frame) (frame other : Frame) (below others : List Frame) → frames ≡ frame ∷ below
    → IsReserving frame.kind frame.state → frames ≡ other ∷ others → IsReserving other.kind other.state
reserving_top frames frame other below others one is two =
    subst (λ (f : Frame). IsReserving f.kind f.state) (same_top frames frame other below others one two) is

pub leaving_top : (frames : List Frame) (frame other : Frame) (below others : List Frame) → frames ≡ frame ∷ below
    → IsLeaving frame.kind frame.state → frames ≡ other ∷ others → IsLeaving other.kind other.state
leaving_top frames frame other below others one is two =
    subst (λ (f : Frame). IsLeaving f.kind f.state) (same_top frames frame other below others one two) is
