use Rattle.std.proofs.Common.{refl, sym, ◌∙◌}
use Rattle.text_values.proofs.Written.{written_out, still_failed}
use Rattle.text_values.proofs.buffer.TextBuffer.write_out.Goals as goal
use Rattle.text_values.proofs.buffer.TextBuffer.write_out.Goals.{then-not-self, else-not-self}

pub returns-clause-put : goal.returns-clause-put
returns-clause-put g c = λ start text has.
    elim c.if-not-self.branch [
      | then-not-self w ↦ rw w.writer-is
          (written_out w.write_all.result start _ _ _ _ text w.text.result.now c.args.self.now _
          (sym c.requires ∙ w.if-not-self.true) refl w.text.ensures w.write_all.ensures.all w.write_all.ensures.prefix
          w.write_all.ensures.fault has)
      | else-not-self w ↦ rw w.writer-is
          (still_failed start _ _ text c.args.self.now _ (sym c.requires ∙ w.if-not-self.false) has)
    ]
