use Rattle.std.proofs.Common.{◌≡◌, ℕ, List, ◌∷◌, Option, Some, IfOk, length, refl, sym, ap, ◌∙◌, subst}
use Rattle.std.specs.Borrow.{MutBor}
use Rattle.std.proofs.lemmas.Result.{IfOk-weaker}
use Rattle.nested_writer.specs.declared.frame.Slot.{Slot}
use Rattle.nested_writer.specs.Calls.{IsTopSlot}
use Rattle.nested_writer.specs.Lent.{Lent, lent_bytes, with_bytes}
use Rattle.ring_frames.specs.Value.{FramesValue}
use Rattle.ring_frames.specs.Lending.{LendsSlot}
use Rattle.ring_steps.specs.Views.{Writing}
use Rattle.ring_shared.specs.Value.{WriterValue}
use Rattle.ring_shared.specs.Calls.{IsWriter}
use Rattle.ring_shared.specs.Lending.{FitsFrame, with_lent}
use Rattle.ring_shared.specs.Rooms.{rooms, IsTopRoom}
use Rattle.ring_shared.specs.contracts.writer.Writer.{the_view}
use Rattle.ring_shared.proofs.Rooms.{top_room, same_room}
use Rattle.ring_shared.proofs.TopLent.{slot_held, lent_len, stays_writer}
use Rattle.ring_shared.proofs.writer.Writer.top_mut.Goals as goal

pub returns : goal.returns
unfolding IsWriter
returns c =
    let v : WriterValue = the_view c.self.inside in
    let w : IsWriter v = subst IsWriter (sym c.self.view_is) c.requires.writer in
    let lends = c.top_mut.ensures in
    let fits : (slot : Slot) → IsTopSlot v.frames.stack.frames slot → FitsFrame v slot =
    λ slot is frame below moment len top kind.
    lends.fits slot is v.shape.pages v.shape.size v.shape.start w.core frame below moment len w.frames_are
    (ap (λ (x : Writing). x.frames) w.part_is ∙ top) kind in (
      rw (← c.self.view_is) refl,
      record {
        lends = tt;
        slot = subst (λ (x : WriterValue). LendsSlot x.frames.stack c.top_mut.result) c.self.view_is lends.slot;
        held = rw (← c.self.view_is) (λ slot is. lends.slot.held slot.place (slot_held v.frames.stack.frames slot is));
        unwritten =
            subst (λ (x : WriterValue). IfOk c.top_mut.result (λ (p : MutBor Lent). with_lent x p.now ≡ x))
            c.self.view_is
            (IfOk-weaker c.top_mut.result _ _ (λ p same. ap (λ (f : FramesValue). record v { frames = f }) same)
            lends.unwritten);
        room =
            subst
            (λ (x : WriterValue).
            IfOk c.top_mut.result (λ (p : MutBor Lent). IsTopRoom x (length (lent_bytes p.now)))) c.self.view_is
            (IfOk-weaker c.top_mut.result _ _
            (λ p lent.
            subst (IsTopRoom v) (sym (lent_len v.frames.stack p.now lent))
            (top_room v w lent.slot lent.on_top (fits lent.slot lent.on_top))) lends.slot.lent);
        long =
            subst
            (λ (x : WriterValue).
            (bytes : ℕ) (below : List (Option ℕ)) → rooms x ≡ Some bytes ∷ below
            → IfOk c.top_mut.result (λ (p : MutBor Lent). length (lent_bytes p.now) ≡ bytes)) c.self.view_is
            (λ bytes below is.
            IfOk-weaker c.top_mut.result _ _
            (λ p lent.
            same_room bytes below v is (length (lent_bytes p.now))
            (subst (IsTopRoom v) (sym (lent_len v.frames.stack p.now lent))
            (top_room v w lent.slot lent.on_top (fits lent.slot lent.on_top)))) lends.slot.lent);
        fits =
            subst (λ (x : WriterValue). (slot : Slot) → IsTopSlot x.frames.stack.frames slot → FitsFrame x slot)
            c.self.view_is fits;
        writer =
            subst
            (λ (x : WriterValue).
            IfOk c.top_mut.result
            (λ (p : MutBor Lent).
            (part : List ℕ) → length part ≡ length (lent_bytes p.now)
            → IsWriter (with_lent x (with_bytes p.now part)))) c.self.view_is
            (IfOk-weaker c.top_mut.result _ _
            (λ p lent part long. stays_writer v w p.now lent part long (lends.stays lent.slot lent.on_top))
            lends.slot.lent);
      },
    )
