use Rattle.std.proofs.Common.{◌≡◌, ℕ, List, IfOk, length, refl, sym, ap, subst}
use Rattle.std.specs.Borrow.{MutBor}
use Rattle.std.proofs.lemmas.Result.{IfOk-weaker}
use Rattle.nested_writer.specs.declared.frame.Slot.{Slot}
use Rattle.nested_writer.specs.Stack.{Stack}
use Rattle.nested_writer.specs.Calls.{IsTopSlot}
use Rattle.nested_writer.specs.Lent.{Lent, lent_bytes, with_bytes}
use Rattle.nested_writer.specs.Lending.{IsLent, with_top}
use Rattle.nested_writer.proofs.Written.{written}
use Rattle.ring_frames.specs.Value.{FramesValue}
use Rattle.ring_frames.specs.Inside.{frames_in}
use Rattle.ring_frames.specs.Answers.{top_bytes}
use Rattle.ring_frames.specs.Lens.{lens, FitsTop}
use Rattle.ring_frames.specs.Lending.{FitsFrame, LeavesOthers, StaysFrames, with_lent}
use Rattle.ring_frames.specs.Steps.{AreSomeFrames}
use Rattle.ring_frames.proofs.Lent.{top_lent, top_written, slot_fits, written_stays, fits_top}
use Rattle.ring_frames.proofs.Others.{leaves_others}
use Rattle.ring_frames.proofs.frames.Frames.top_mut.Goals as goal

pub returns : goal.returns
returns c =
    let v : FramesValue = frames_in c.self.inside in
    let (n, size, start, s, are) = subst AreSomeFrames (sym c.self.view_is) c.requires.shown in
    let lends = c.top_mut.ensures in (
      rw (← c.self.view_is) refl,
      record {
        lends = tt;
        slot = record {
          no_frame = rw (← c.self.view_is) lends.no_frame;
          not_reserved = rw (← c.self.view_is) lends.not_reserved;
          held = rw (← c.self.view_is) lends.held;
          lent =
              subst (λ (x : FramesValue). IfOk c.top_mut.result (λ (p : MutBor Lent). IsLent x.stack p.now))
              c.self.view_is lends.lent;
          word = lends.word;
          payload =
              subst
              (λ (x : FramesValue).
              IfOk c.top_mut.result (λ (p : MutBor Lent). lent_bytes p.now ≡ top_bytes x.stack x.stack.frames))
              c.self.view_is
              (IfOk-weaker c.top_mut.result _ _ (λ p lent. top_lent n size start v s are p.now lent) lends.lent);
          written =
              subst
              (λ (x : FramesValue).
              IfOk c.top_mut.result
              (λ (p : MutBor Lent).
              (part : List ℕ) → length part ≡ length (lent_bytes p.now)
              → top_bytes (with_top x.stack (with_bytes p.now part)) x.stack.frames ≡ part))
              c.self.view_is
              (IfOk-weaker c.top_mut.result _ _ (λ p lent. top_written n size start v s are p.now lent) lends.lent);
          others =
              subst (λ (x : FramesValue). (slot : Slot) → IsTopSlot x.stack.frames slot → LeavesOthers x.stack slot)
              c.self.view_is
              (λ slot is. leaves_others start s.history v.stack slot are.stack_is is);
        };
        long =
            subst
            (λ (x : FramesValue).
            IfOk c.top_mut.result (λ (p : MutBor Lent). FitsTop (lens x.stack) (length (lent_bytes p.now))))
            c.self.view_is
            (fits_top v.stack.frames c.top_mut.result lends.fits);
        unwritten =
            subst (λ (x : FramesValue). IfOk c.top_mut.result (λ (p : MutBor Lent). with_lent x p.now ≡ x))
            c.self.view_is
            (IfOk-weaker c.top_mut.result _ _ (λ p same. ap (λ (s' : Stack). record v { stack = s' }) same)
            lends.unwritten);
        fits =
            subst (λ (x : FramesValue). (slot : Slot) → IsTopSlot x.stack.frames slot → FitsFrame x slot) c.self.view_is
            (λ slot is n' size' start' s' frame below moment long are' top kind.
            slot_fits n' size' start' v s' are' slot is frame below moment long top kind);
        stays =
            subst (λ (x : FramesValue). (slot : Slot) → IsTopSlot x.stack.frames slot → StaysFrames x slot)
            c.self.view_is
            (λ slot is n' size' start' s' part are' fills.
            written_stays n' size' start' v s' are' slot is part fills
            (λ history k long. written start' history v.stack slot part is long k));
      },
    )
