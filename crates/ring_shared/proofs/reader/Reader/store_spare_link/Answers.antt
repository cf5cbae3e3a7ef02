use Rattle.std.specs.Prelude.{true}
use Rattle.std.proofs.Common.{rules, ◌≡◌, refl, sym, ap, ◌∙◌, subst, arith}
use Rattle.trace_model.specs.Links as links
use Rattle.trace_model.specs.Ring as ring
use Rattle.trace_model.specs.Steps as model
use Rattle.link_marks.specs.ModelLinks.{link_of}
use Rattle.ring_frames.specs.ReaderPhases.{reader_phase_of}
use Rattle.ring_steps.specs.Views.{Reading, reading_after}
use Rattle.ring_steps.specs.Ends.{reading_in, reader_table}
use Rattle.ring_steps.specs.Taking.{page_in, fill_in, SpareLinked}
use Rattle.ring_shared.specs.Value.{ReaderValue}
use Rattle.ring_shared.specs.Takes.{SawPage}
use Rattle.ring_shared.proofs.TakeSteps.{nothing, so, stays}
use Rattle.ring_shared.proofs.Fields.{fields, shown}
use Rattle.ring_shared.proofs.reader.Reader.store_spare_link.Goals as goal

pub store_spare_link-requires-clause-due : goal.store_spare_link-requires-clause-due
store_spare_link-requires-clause-due c =
    let at =
    ap (λ (w : ReaderValue). w.part.reader.phase) c.self.view_is
    ∙ (c.requires.taking.reader.phase_is ∙ ap reader_phase_of c.requires.phase) in
    subst (λ (p : ring.ReaderPhase). p ≡ ring.storing_spare_link (page_in p) (fill_in p)) (sym at) refl

pub returns : goal.returns
returns c =
    let v : ReaderValue = c.args.self.now in
    let new = c.store_spare_link.new.self in
    let after : Reading = reading_in new in
    let reported = c.store_spare_link.ensures in
    let old = fields _ v c.self.view_is c.requires.taking.reader in
    let at = c.requires.taking.reader.phase_is ∙ ap reader_phase_of c.requires.phase in
    let link : links.Link = link_of c.header-behind.result in
    let h = subst (λ (w : ReaderValue). SpareLinked w.shape w.part link after) c.self.view_is reported.linked in
    let about : ring.ReaderPhase = ring.swapping c.args.page c.args.fill in
    let reader : ring.Reader = record v.part.reader { phase = about } in
    let is =
    subst
    (λ (p : ring.ReaderPhase).
    after
    ≡ reading_after v.part.made record { event = model.reads; answer = model.reading }
    (record v.part {
      spare_link = link;
      reader = record v.part.reader { phase = ring.swapping (page_in p) (fill_in p) };
      keeps_spare = true;
    })) at h.after_is in
    let s = stays v.shape v.part after _ model.reading h.step reader link true _ is in
    record {
      looked = (
        nothing v.shape v.part after reader s refl refl (omega arith) (omega arith),
        so v.shape v.part after _ model.reading h.step,
      );
      empty_at = search rules;
      ring = search rules;
      reader =
          shown _ v c.self.view_is c.requires.taking.reader new.shape (reader_table new) after reader _
          c.requires.taking.again reported.same.shape s (refl, old.1, old.2, old.3) reported.spare
          (subst SawPage c.requires.phase c.requires.taking.reader.saw);
    }
