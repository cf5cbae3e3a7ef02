use Rattle.std.proofs.Common.{refl, sym, ◌∙◌}
use Rattle.trace_script.proofs.TextParts.{next_line}
use Rattle.trace_script.proofs.lines.Lines.next_line.Goals as goal

pub returns-clause-lines : goal.returns-clause-lines
returns-clause-lines c =
    next_line _ _ c.line_cut.result.1 c.unwrap_or-self.result _ c.unwrap_or-self.ensures refl
    (sym c.is_empty.ensures ∙ c.if-is_empty.false) c.line_cut.ensures.parts c.line_cut.ensures.whole
