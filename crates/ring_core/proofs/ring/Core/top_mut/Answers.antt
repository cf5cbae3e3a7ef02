use Rattle.std.proofs.Common.{◌≡◌, ℕ, List, IfOk, length, refl, sym, ap, ◌∙◌, subst}
use Rattle.std.specs.Borrow.{MutBor}
use Rattle.std.proofs.lemmas.Result.{IfOk-weaker}
use Rattle.nested_writer.specs.declared.frame.Slot.{Slot}
use Rattle.nested_writer.specs.Calls.{IsTopSlot}
use Rattle.nested_writer.specs.Lent.{Lent, lent_bytes, with_bytes}
use Rattle.ring_frames.specs.Value.{FramesValue}
use Rattle.ring_frames.specs.Lens.{lens, FitsTop}
use Rattle.ring_frames.specs.Lending.{LendsSlot}
use Rattle.ring_core.specs.Value.{CoreValue, frames_of}
use Rattle.ring_core.specs.Inside.{core_of}
use Rattle.ring_core.specs.Lending.{FitsFrame, StaysRing, with_lent}
use Rattle.ring_core.specs.Steps.{IsReachedCore}
use Rattle.ring_frames.proofs.Lent.{top_long}
use Rattle.ring_core.proofs.Lent.{top_stays, lent_stays}
use Rattle.ring_core.proofs.ring.Core.top_mut.Goals as goal

pub top_mut-requires : goal.top_mut-requires
unfolding IsReachedCore
top_mut-requires c =
    let (n, size, start, m, core) = subst IsReachedCore (sym c.self.view_is) c.requires.ring in
    record { shown = (n, size, start, m, core.shows.frames) }

pub returns : goal.returns
unfolding IsReachedCore
returns c =
    let v : CoreValue = core_of c.self.inside in
    let (n, size, start, s, core) = subst IsReachedCore (sym c.self.view_is) c.requires.ring in
    let lends = c.top_mut.ensures in (
      rw (← c.self.view_is) refl,
      record {
        lends = tt;
        slot = subst (λ (x : CoreValue). LendsSlot x.stack c.top_mut.result) c.self.view_is lends.slot;
        long =
            subst
            (λ (x : CoreValue).
            IfOk c.top_mut.result (λ (p : MutBor Lent). FitsTop (lens x.stack) (length (lent_bytes p.now))))
            c.self.view_is lends.long;
        unwritten =
            subst (λ (x : CoreValue). IfOk c.top_mut.result (λ (p : MutBor Lent). with_lent x p.now ≡ x)) c.self.view_is
            (IfOk-weaker c.top_mut.result _ _ (λ p same. ap (λ (f : FramesValue). record v { stack = f.stack }) same)
            lends.unwritten);
        ring =
            subst
            (λ (x : CoreValue).
            IfOk c.top_mut.result
            (λ (p : MutBor Lent).
            (part : List ℕ) → length part ≡ length (lent_bytes p.now)
            → IsReachedCore (with_lent x (with_bytes p.now part)))) c.self.view_is
            (IfOk-weaker c.top_mut.result _ _
            (λ p lent part long. (
              n,
              size,
              start,
              s,
              lent_stays n size start v s p.now part core lent (lends.stays lent.slot lent.on_top) long,
            ))
            lends.slot.lent);
        fits =
            subst (λ (x : CoreValue). (slot : Slot) → IsTopSlot x.stack.frames slot → FitsFrame x slot) c.self.view_is
            (λ slot is n' size' start' s' frame below moment long core' top kind.
            lends.fits slot is n' size' start' s' frame below moment long core'.shows.frames top kind);
        stays = subst (λ (x : CoreValue). (slot : Slot) → IsTopSlot x.stack.frames slot → StaysRing x) c.self.view_is
            (λ slot is n' size' start' s' part core' long.
            top_stays n' size' start' v s' slot part core' is (lends.stays slot is)
            (long ∙ top_long n size start (frames_of v) s core.shows.frames slot is));
      },
    )
