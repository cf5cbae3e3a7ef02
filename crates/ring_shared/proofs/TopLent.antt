-- The payload of the frame on top, as it is lent and written.
use Rattle.std.proofs.Common.{◌≡◌, ℕ, List, [], ◌∷◌, length, Some, sym, ap, ◌∙◌, subst}
use Rattle.record_words.specs.declared.put.Place.{Place}
use Rattle.nested_writer.specs.declared.frame.Slot.{Slot}
use Rattle.nested_writer.specs.declared.frame.Frame.{Frame}
use Rattle.nested_writer.specs.Stack.{Stack}
use Rattle.nested_writer.specs.Calls.{IsTopSlot}
use Rattle.nested_writer.specs.Next.{place_of, top_place}
use Rattle.nested_writer.specs.Lent.{Lent, lent_bytes, with_bytes}
use Rattle.nested_writer.specs.Lending.{IsLent, with_slot, with_top}
use Rattle.ring_frames.specs.Answers.{top_bytes}
use Rattle.ring_frames.specs.AreFrames.{AreFrames}
use Rattle.ring_frames.specs.Lending.{StaysFrames}
use Rattle.ring_shared.specs.Value.{WriterValue}
use Rattle.ring_shared.specs.Calls.{AreWriterFields}
use Rattle.ring_shared.specs.Lending.{with_slot_payload, with_lent}
use Rattle.ring_shared.specs.Covering.{KeepsCovered}
use Rattle.ring_shared.specs.WholeWrites.{EndsRecord}

-- the frame on top has the place of its slot
pub slot_held : (frames : List Frame) (slot : Slot) → IsTopSlot frames slot → top_place frames ≡ Some slot.place
slot_held [] slot is = absurd is
slot_held (top ∷ below) slot is = ap place_of is

pub lent_len : (s : Stack) (payload : Lent) (lent : IsLent s payload)
    → length (lent_bytes payload) ≡ lent.slot.place.len
lent_len s payload lent = lent.long ∙ ap (λ (p : Place). p.len) lent.place_is

-- whatever is written, the writer's fields are its part of the ring
pub stays_writer : (v : WriterValue) (w : AreWriterFields v) (payload : Lent) (lent : IsLent v.frames.stack payload)
    (part : List ℕ) → length part ≡ length (lent_bytes payload) → StaysFrames v.frames lent.slot
    → AreWriterFields (with_lent v (with_bytes payload part))
stays_writer v w payload lent part long stays = record {
  core = w.core;
  reached = w.reached;
  part_is = w.part_is;
  frames_are =
      subst (λ (s : Stack). AreFrames v.shape.pages v.shape.size v.shape.start (record v.frames { stack = s }) w.core)
      (sym (lent.in_slot part))
      (stays v.shape.pages v.shape.size v.shape.start w.core part w.frames_are
      (long ∙ lent_len v.frames.stack payload lent));
  pages_are = w.pages_are;
}

module _ (v : WriterValue) (payload : Lent) (lent : IsLent v.frames.stack payload) (part : List ℕ) where
  -- bytes in the payload are bytes in the slot
  pub lent_is : with_lent v (with_bytes payload part) ≡ with_slot_payload v lent.slot part
  lent_is = ap (λ (s : Stack). record v { frames = record v.frames { stack = s } }) (lent.in_slot part)

  pub written_is : top_bytes (with_top v.frames.stack (with_bytes payload part)) v.frames.stack.frames ≡ part
      → top_bytes (with_slot v.frames.stack lent.slot part) v.frames.stack.frames ≡ part
  written_is = subst (λ (s : Stack). top_bytes s v.frames.stack.frames ≡ part) (lent.in_slot part)

  pub ends_is : (new : WriterValue) → EndsRecord (with_lent v (with_bytes payload part)) new
      → EndsRecord (with_slot_payload v lent.slot part) new
  ends_is new = subst (λ (x : WriterValue). EndsRecord x new) lent_is

  pub covered_is : (new : Stack) → KeepsCovered (with_top v.frames.stack (with_bytes payload part)) new
      → KeepsCovered (with_slot v.frames.stack lent.slot part) new
  covered_is new = subst (λ (s : Stack). KeepsCovered s new) (lent.in_slot part)
