use Rattle.std.proofs.Common.{sym, ◌∙◌}
use Rattle.std.proofs.lemmas.Bool.{cond-true}
use Rattle.text_values.proofs.Chains.{put_same}
use Rattle.capture_text.proofs.lines.put_listed.Goals as goal

pub returns-then-has-clause-text : goal.returns-then-has-clause-text
returns-then-has-clause-text g c = λ detail is.
    put_same _ _ (sym (cond-true _ _ _ (sym c.has.ensures ∙ c.if-has.true))) (c.put_record.ensures.text detail is)
