use Rattle.std.specs.Prelude.{⊤}
use Rattle.std.proofs.Common.{sym, ap, ◌∙◌, subst}
use Rattle.trace_model.specs.Ring as ring
use Rattle.trace_model.specs.Steps.{wishes, wished_for}
use Rattle.ring_frames.specs.declared.reader.ReaderPhase.{ReaderPhase}
use Rattle.ring_steps.specs.Views.{Reading}
use Rattle.ring_steps.specs.Ends.{reading_in, reader_table}
use Rattle.ring_steps.specs.Seats.{IsReaderStep}
use Rattle.ring_shared.specs.Value.{ReaderValue}
use Rattle.ring_shared.specs.Takes.{KeepsSpare, SawPage}
use Rattle.ring_shared.proofs.Fields.{fields, shown_as}
use Rattle.ring_shared.proofs.Onward.{wish_stays}
use Rattle.ring_shared.proofs.reader.Reader.wish.Goals as goal

pub returns-clause-reader : goal.returns-clause-reader
returns-clause-reader c =
    let v : ReaderValue = c.args.self.now in let new = c.store_wish.new.self in let after : Reading = reading_in new in
    let is = c.requires.reader in
    let step =
    subst
    (λ (w : ReaderValue).
    IsReaderStep w.shape w.part (λ core. ⊤) wishes (wished_for c.self.inside.at.seen) after) c.self.view_is
    c.store_wish.ensures.step in
    let s = wish_stays v.shape v.part after (λ core. ⊤) (wished_for c.self.inside.at.seen) step in
    let old = fields _ v c.self.view_is is in
    let slot = c.store_wish.ensures.spare ∙ ap (λ (w : ReaderValue). w.part.keeps_spare) c.self.view_is in
    let phase = ap (λ (w : ReaderValue). w.at.phase) c.self.view_is in
    shown_as _ v c.self.view_is is new.shape (reader_table new) after v.part.reader _ after.wish
    c.store_wish.ensures.same.shape s old
    (subst (λ (p : ReaderPhase). KeepsSpare p after.keeps_spare) (sym phase)
    (subst (KeepsSpare v.at.phase) (sym slot) is.keeps))
    (subst SawPage (sym phase) is.saw)
    (λ done e. let found = is.empty done (ap (λ (w : ReaderValue). w.empty_at) (sym c.self.view_is) ∙ e) in record {
      hint_is = ap (λ (x : ring.Reader). x.hint) s.reader_is ∙ found.hint_is;
      seen_is = ap (λ (x : ring.Reader). x.seen) s.reader_is ∙ found.seen_is;
      phase_is = phase ∙ found.phase_is;
      no_spare = slot ∙ found.no_spare;
    })
