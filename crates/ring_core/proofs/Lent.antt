-- The payload of the frame on top, which is lent and written.
use Rattle.std.proofs.Common.{◌≡◌, ℕ, List, [], ◌∷◌, length, refl, sym, ap, ◌∙◌, subst}
use Rattle.trace_model.specs.Ring.{Core}
use Rattle.record_words.specs.declared.put.Place.{Place}
use Rattle.nested_writer.specs.declared.frame.Slot.{Slot}
use Rattle.nested_writer.specs.declared.frame.Progress.{Progress}
use Rattle.nested_writer.specs.declared.frame.Frame.{Frame}
use Rattle.nested_writer.specs.Stack.{Stack}
use Rattle.nested_writer.specs.Calls.{IsTopSlot}
use Rattle.nested_writer.specs.Lent.{Lent, lent_bytes, with_bytes}
use Rattle.nested_writer.specs.Lending.{with_slot, IsLent}
use Rattle.ring_frames.specs.Lending.{StaysFrames}
use Rattle.ring_core.specs.Value.{CoreValue, frames_of}
use Rattle.ring_core.specs.IsCore.{IsCore}
use Rattle.ring_core.specs.Lending.{with_reserved, with_top_bytes, with_slot_payload, with_top_payload, with_lent}
use Rattle.ring_core.proofs.Privately.{shows_reframed}

top_is_slot : (s : Stack) (frames : List Frame) (slot : Slot) (part : List ℕ) → IsTopSlot frames slot
    → with_top_bytes s frames part ≡ with_slot s slot part
top_is_slot s [] slot part none = absurd none
top_is_slot s (top ∷ below) slot part has = ap (λ (p : Progress). with_reserved s p part) has

-- whatever is written in the slot, the ring is in the same state
pub slot_stays : (n size start : ℕ) (v : CoreValue) (c : Core) (slot : Slot) (part : List ℕ) → IsCore n size start v c
    → StaysFrames (frames_of v) slot → length part ≡ slot.place.len
    → IsCore n size start (with_slot_payload v slot part) c
slot_stays n size start v c slot part core stays long = record {
  reached = core.reached;
  shows =
      shows_reframed n size start v c (frames_of (with_slot_payload v slot part)) c.frames c.history c.held core.shows
      (stays n size start c part core.shows.frames long) (λ f low high. refl);
}

-- so for what is written over the frame on top
pub top_stays : (n size start : ℕ) (v : CoreValue) (c : Core) (slot : Slot) (part : List ℕ) → IsCore n size start v c
    → IsTopSlot v.stack.frames slot → StaysFrames (frames_of v) slot → length part ≡ slot.place.len
    → IsCore n size start (with_top_payload v part) c
top_stays n size start v c slot part core is stays long =
    subst (λ (s : Stack). IsCore n size start (record v { stack = s }) c)
    (sym (top_is_slot v.stack v.stack.frames slot part is)) (slot_stays n size start v c slot part core stays long)

-- so for what is written into the payload that the stack lends
pub lent_stays : (n size start : ℕ) (v : CoreValue) (c : Core) (payload : Lent) (part : List ℕ)
    → IsCore n size start v c → (lent : IsLent v.stack payload) → StaysFrames (frames_of v) lent.slot
    → length part ≡ length (lent_bytes payload) → IsCore n size start (with_lent v (with_bytes payload part)) c
lent_stays n size start v c payload part core lent stays long =
    subst (λ (s : Stack). IsCore n size start (record v { stack = s }) c) (sym (lent.in_slot part))
    (slot_stays n size start v c lent.slot part core stays (long ∙ lent.long ∙ ap (λ (p : Place). p.len) lent.place_is))
