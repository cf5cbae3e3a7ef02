use Rattle.std.proofs.Common.{rules, ◌≡◌, ℕ, ◌<◌, ◌≤◌, refl, sym, ap, ◌∙◌, subst, arith}
use Rattle.trace_model.specs.Ring as ring
use Rattle.trace_model.specs.Steps as model
use Rattle.ring_frames.specs.ReaderPhases.{reader_phase_of}
use Rattle.ring_frames.specs.declared.reader.ReaderPhase.{ReaderPhase}
use Rattle.ring_steps.specs.Views.{Reading}
use Rattle.ring_steps.specs.Ends.{reading_in, reader_table}
use Rattle.ring_steps.specs.Taking.{page_in, fill_in, DoneLoaded}
use Rattle.ring_shared.specs.Value.{ReaderValue}
use Rattle.ring_shared.specs.Takes.{KeepsSpare, SawPage}
use Rattle.ring_shared.proofs.TakeSteps.{nothing, so, counted, none_found}
use Rattle.ring_shared.proofs.Fields.{fields, shown}
use Rattle.ring_shared.proofs.reader.Reader.load_done.Goals as goal

pub load_done-done-requires : goal.load_done-done-requires
load_done-done-requires c =
    let at =
    ap (λ (w : ReaderValue). w.part.reader.phase) c.self.view_is
    ∙ (c.requires.taking.reader.phase_is ∙ ap reader_phase_of c.requires.phase) in
    record { due = subst (λ (p : ring.ReaderPhase). p ≡ ring.loading_done (page_in p) (fill_in p)) (sym at) refl }

pub returns-then-done-fill : goal.returns-then-done-fill
returns-then-done-fill c =
    let v : ReaderValue = c.args.self.now in
    let done = c.load_done-done.result in
    let new = c.load_done-done.new.self in
    let after : Reading = reading_in new in
    let reported = c.load_done-done.ensures in
    let old = fields _ v c.self.view_is c.requires.taking.reader in
    let at = c.requires.taking.reader.phase_is ∙ ap reader_phase_of c.requires.phase in
    let here = ap (λ (w : ReaderValue). fill_in w.part.reader.phase) c.self.view_is ∙ ap fill_in at in
    let h =
    subst (λ (w : ReaderValue). DoneLoaded w.shape w.part done (model.empty done) ring.loading_head after)
    c.self.view_is (reported.none (subst (λ (fill : ℕ). done ≤ fill) (sym here) c.if-done-fill.true)) in
    let hint : v.part.reader.hint ≡ done =
    ap (λ (w : ReaderValue). w.part.reader.hint) (sym c.self.view_is)
    ∙ reported.all (subst (λ (fill : ℕ). done ≤ fill) (sym here) c.if-done-fill.true) in
    let s = counted v.shape v.part done (model.empty done) ring.loading_head after h in
    record {
      looked = (
        none_found v.shape v.part done (model.empty done) after h hint,
        so v.shape v.part after _ (model.empty done) h.step,
        record {
          hint_is = ap (λ (x : ring.Reader). x.hint) s.reader_is ∙ hint;
          seen_is = ap (λ (x : ring.Reader). x.seen) s.reader_is;
          phase_is = refl;
          no_spare =
              reported.spare
              ∙ (ap (λ (w : ReaderValue). w.part.keeps_spare) c.self.view_is
              ∙ subst (λ (p : ReaderPhase). KeepsSpare p v.part.keeps_spare) c.requires.phase
              c.requires.taking.reader.keeps);
        },
      );
      empty_at = search rules;
      ring = search rules;
      reader =
          shown _ v c.self.view_is c.requires.taking.reader new.shape (reader_table new) after
          (record v.part.reader { phase = ring.loading_head; seen = done }) _ c.requires.taking.again
          reported.same.shape s (refl, old.1, refl, old.3) tt tt;
    }

pub returns : goal.returns
returns c =
    let v : ReaderValue = c.args.self.now in
    let done = c.load_done-done.result in
    let new = c.load_done-done.new.self in
    let after : Reading = reading_in new in
    let reported = c.load_done-done.ensures in
    let old = fields _ v c.self.view_is c.requires.taking.reader in
    let at = c.requires.taking.reader.phase_is ∙ ap reader_phase_of c.requires.phase in
    let there = ap (λ (w : ReaderValue). w.part.reader.phase) c.self.view_is ∙ at in
    let storing : ring.ReaderPhase = ring.storing_spare_link c.args.page c.args.fill in
    let h = subst (λ (w : ReaderValue). DoneLoaded w.shape w.part done model.reading storing after) c.self.view_is
    (subst
    (λ (p : ring.ReaderPhase).
    DoneLoaded c.self.inside.seat.shape (reading_in c.self.inside.seat) done model.reading
    (ring.storing_spare_link (page_in p) (fill_in p)) after) there
    (reported.closed
    (subst (λ (p : ring.ReaderPhase). fill_in p < done) (sym there) (omega (arith, c.if-done-fill.false))))) in
    let s = counted v.shape v.part done model.reading storing after h in
    let no_spare =
    reported.spare
    ∙ (ap (λ (w : ReaderValue). w.part.keeps_spare) c.self.view_is
    ∙ subst (λ (p : ReaderPhase). KeepsSpare p v.part.keeps_spare) c.requires.phase
    c.requires.taking.reader.keeps) in
    record {
      looked = (
        nothing v.shape v.part after (record v.part.reader { phase = storing; seen = done }) s refl refl
            (omega arith) h.seen_le,
        so v.shape v.part after _ model.reading h.step,
      );
      empty_at = search rules;
      ring = search rules;
      reader =
          shown _ v c.self.view_is c.requires.taking.reader new.shape (reader_table new) after
          (record v.part.reader { phase = storing; seen = done }) _ c.requires.taking.again reported.same.shape s
          (refl, old.1, refl, old.3) no_spare (subst SawPage c.requires.phase c.requires.taking.reader.saw);
    }
