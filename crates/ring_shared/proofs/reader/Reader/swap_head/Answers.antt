use Rattle.std.proofs.Common.{◌≡◌, ℕ, ◌+◌, ◌-◌, ◌%◌, length, slice_set, None, refl, sym, ap, ◌∙◌, subst, arith, rules}
use Rattle.std.proofs.lemmas.Result.{err_from_is_err_and}
use Rattle.trace_model.specs.Ring as ring
use Rattle.page_image.specs.Contents.{Contents}
use Rattle.ring_frames.specs.ReaderPhases.{reader_phase_of}
use Rattle.ring_steps.specs.declared.rule.Shape.{Shape}
use Rattle.ring_steps.specs.Views.{Reading}
use Rattle.ring_steps.specs.Ends.{reading_in, reader_table}
use Rattle.ring_steps.specs.Swapping.{HeadTaken, HeadGone}
use Rattle.ring_shared.specs.declared.take.Take.TheVariants.{Page}
use Rattle.ring_shared.specs.Value.{ReaderValue}
use Rattle.ring_shared.specs.Takes.{IsReaderPart, SawPage, IsPageTaken, IsAnswered}
use Rattle.ring_shared.proofs.TakeSteps.{nothing}
use Rattle.ring_shared.proofs.Fields.{fields, positions, shown}
use Rattle.ring_shared.proofs.PageTaken.{takes, misses, swap_answers, miss_answers}
use Rattle.ring_shared.proofs.reader.Reader.swap_head.Goals as goal

pub swap_head-swapped-requires-clause-fits : goal.swap_head-swapped-requires-clause-fits
swap_head-swapped-requires-clause-fits c = subst SawPage c.requires.phase c.requires.taking.reader.saw

pub returns : goal.returns
returns c =
    let v : ReaderValue = c.args.self.now in
    let after : Reading = reading_in c.swap_head-swapped.new.self in
    let taken : Contents = c.in_ok-taken.taken in
    let h =
    subst (λ (w : ReaderValue). HeadTaken w.shape w.part c.args.page c.args.fill taken after) c.self.view_is
    c.in_ok-taken.ensures.taken in
    let at = c.requires.taking.reader.phase_is ∙ ap reader_phase_of c.requires.phase in
    let old = fields _ v c.self.view_is c.requires.taking.reader in
    record {
      swapped = (
        subst (λ (missed : ℕ). IsPageTaken v.shape v.part taken missed after)
            (λ i. sym c.first-first.ensures i - old.3 i)
            (takes v.shape v.part c.args.page c.args.fill after at taken (search rules) h).1,
        subst (λ (missed : ℕ). IsAnswered v.shape v.part (Page taken missed) after)
            (λ i. sym c.first-first.ensures i - old.3 i)
            (swap_answers v.shape v.part c.args.page c.args.fill after taken h),
      );
      empty_at = search rules;
      ring = search rules;
      reader = let new = c.swap_head-swapped.new.self in
          let order = c.requires.taking.reader.order_is ∙ ap (λ (w : ReaderValue). w.order) (sym c.self.view_is) in
          let spare = c.requires.taking.reader.spare_is ∙ ap (λ (w : ReaderValue). w.spare) (sym c.self.view_is) in
          let pages : c.len-pages.result ≡ v.shape.pages =
          c.len-pages.ensures
          ∙ (c.self.inside.order.ok.0
          ∙ (ap (λ (w : ReaderValue). length w.order) c.self.view_is
          ∙ positions v c.requires.taking.reader)) in
          let known = (takes v.shape v.part c.args.page c.args.fill after at taken (search rules) h).0 in
          record {
            part =
                subst (λ (x : Shape). IsReaderPart x after)
                (sym (c.swap_head-swapped.ensures.same.shape ∙ ap (λ (w : ReaderValue). w.shape) c.self.view_is)) known;
            order_is = h.order_is ∙ (λ i. slice_set (order i) (c.args.fill % sym pages i) (spare i));
            spare_is = h.spare_is;
            phase_is = ap (λ (x : ring.Reader). x.phase) h.reader_is;
            hint_is = ap (λ (x : ring.Reader). x.hint) h.reader_is;
            seen_is = ap (λ (x : ring.Reader). x.seen) h.reader_is ∙ old.2;
            expected_is =
                ap (λ (x : ring.Reader). x.expected) h.reader_is
                ∙ (λ i. sym c.first-first.ensures i + sym c.count.ensures.count i);
            keeps = tt;
            saw = tt;
            empty =
                λ done e.
                (let none : c.self.inside.empty_at ≡ None =
                ap (λ (w : ReaderValue). w.empty_at) c.self.view_is ∙ c.requires.taking.again in
                let both = sym none ∙ e in
                absurd (cc));
          };
    }

pub returns-in_err-taken : goal.returns-in_err-taken
returns-in_err-taken c =
    let v : ReaderValue = c.args.self.now in
    let after : Reading = reading_in c.swap_head-swapped.new.self in
    let h =
    subst (λ (w : ReaderValue). HeadGone w.shape w.part c.args.page c.args.fill after) c.self.view_is
    c.in_err-taken.ensures.failed in
    let at = c.requires.taking.reader.phase_is ∙ ap reader_phase_of c.requires.phase in
    record {
      swapped =
          let p = err_from_is_err_and c.from_residual.result c.from_residual.ensures.1 in
          let (s, low) = misses v.shape v.part c.args.page c.args.fill after at h in
          rw (p.1, p.2) (
            c.in_err-taken.ensures.given_back,
            nothing v.shape v.part after (record v.part.reader { phase = ring.loading_head; hint = c.args.fill + 1 }) s
                refl refl low (omega arith),
            miss_answers v.shape v.part c.args.page c.args.fill after h,
          );
      empty_at = search rules;
      ring = search rules;
      reader = let new = c.swap_head-swapped.new.self in
          let old = fields _ v c.self.view_is c.requires.taking.reader in
          shown _ v c.self.view_is c.requires.taking.reader new.shape (reader_table new) after
          (record v.part.reader { phase = ring.loading_head; hint = c.args.fill + 1 }) _ c.requires.taking.again
          c.swap_head-swapped.ensures.same.shape
          (misses v.shape v.part c.args.page c.args.fill after at h).0 (refl, refl, old.2, old.3) tt tt;
    }
