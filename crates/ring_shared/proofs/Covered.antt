-- Payloads in the slots of frames that a frame covers: they stay while it reserves, is written and ends.
use Rattle.std.proofs.Common.{◌≡◌, ℕ, List, [], ◌∷◌, refl, sym, ap, ◌∙◌, subst}
use Rattle.trace_model.specs.Frames.{for_record, Frame as ModelFrame}
use Rattle.nested_writer.specs.declared.frame.Slot.{Slot}
use Rattle.nested_writer.specs.declared.frame.Frame.{Frame}
use Rattle.nested_writer.specs.Stack.{Stack}
use Rattle.nested_writer.specs.Lending.{with_slot}
use Rattle.nested_writer.specs.Next.{below_top}
use Rattle.ring_frames.specs.Answers.{bytes_in, HoldSlot, KeepsPayloads, EndsPayload}
use Rattle.ring_frames.specs.AreFrames.{AreFrames}
use Rattle.ring_frames.specs.Lending.{LeavesOthers}
use Rattle.ring_frames.proofs.Payloads.{below_held}
use Rattle.ring_frames.proofs.Covered.{covered_slot}
use Rattle.ring_frames.proofs.Lent.{slot_keeps}
use Rattle.ring_steps.specs.declared.rule.Shape.{Shape}
use Rattle.ring_steps.specs.Views.{Writing}
use Rattle.ring_shared.specs.Value.{WriterValue}
use Rattle.ring_shared.specs.Calls.{AreWriterFields}
use Rattle.ring_shared.specs.Covering.{CoversPayloads, KeepsCovered}
use Rattle.ring_shared.specs.WholeWrites.{IsReserved}
use Rattle.ring_shared.proofs.WholeWrites.{top_kind}

-- ---- a frame was pushed, and has reserved

pub reserved_covers : (shape : Shape) (x two : WriterValue) (moment len : ℕ) → AreWriterFields x → AreWriterFields two
    → two.shape ≡ x.shape → IsReserved shape x.part moment len two.part → KeepsPayloads x.frames.stack two.frames.stack
    → CoversPayloads x.frames.stack two.frames.stack
reserved_covers shape x two moment len w k same r kept slot had =
    let (held, bytes) = kept slot had in
    let t = top_kind (for_record moment len) x.part.frames r.number two.part.frames r.reserve.ends in
    let above : k.core.frames ≡ t.next ∷ w.core.frames =
    ap (λ (p : Writing). p.frames) k.part_is ∙ t.top
    ∙ ap (λ (p : Writing). let fs : List ModelFrame = t.next ∷ p.frames in fs) (sym w.part_is) in
    let are = subst (λ (s : Shape). AreFrames s.pages s.size s.start two.frames k.core) same k.frames_are in (
      covered_slot x.shape.pages x.shape.size x.shape.start x.frames two.frames w.core k.core t.next slot w.frames_are
          are above had held,
      bytes,
    )

-- ---- it is written, and ends

pub ends_covered : (old new : Stack) → EndsPayload old new → KeepsCovered old new
ends_covered old new ends slot there = let (same, stays) = ends slot (below_held old.frames slot there) in
    (stays there, same)

pub covered_then : (old mid new : Stack) → KeepsCovered old mid → KeepsPayloads mid new → KeepsCovered old new
covered_then old mid new first then slot there =
    let (held, same) = first slot there in
    let (still, more) = then slot held in
    (still, same ∙ more)

pub kept_under : (old mid new : Stack) (slot : Slot) (part : List ℕ) → CoversPayloads old mid → LeavesOthers mid slot
    → KeepsCovered (with_slot mid slot part) new → KeepsPayloads old new
kept_under old mid new slot part covers others keeps other had =
    let (there, same) = covers other had in
    let (still, more) =
    keeps other
    (subst (λ (fs : List Frame). HoldSlot (below_top fs) other) (sym (slot_keeps mid slot part).frames_is)
    there) in
    (still, same ∙ (sym (left_alone mid.frames refl there) ∙ more))
  where
    left_alone : (frames : List Frame) → mid.frames ≡ frames → HoldSlot (below_top frames) other
        → bytes_in (with_slot mid slot part) other ≡ bytes_in mid other
    left_alone [] is none = absurd none
    left_alone (top ∷ below) is there = others top below other part is there
