use Rattle.std.proofs.Common.{sym, ◌∙◌}
use Rattle.trace_script.proofs.ScriptLemmas.{start_read, no_start_line, no_line_to_start}
use Rattle.trace_script.proofs.header.read_start.Goals as goal

pub returns-in_default-clause-gives : goal.returns-in_default-clause-gives
returns-in_default-clause-gives c = no_line_to_start c.args.pages _ c.in_default.ensures.left

pub returns-then-not-is_start_line-clause-gives : goal.returns-then-not-is_start_line-clause-gives
returns-then-not-is_start_line-clause-gives c =
    no_start_line c.args.pages _ c.in-Some.line.number c.in-Some.line.text.now _ c.in-Some.ensures.left
    (sym c.is_start_line.ensures ∙ c.if-not-is_start_line.true)

pub returns-clause-gives : goal.returns-clause-gives
returns-clause-gives c =
    start_read (λ v. v) c.args.pages _ c.in-Some.line.number c.in-Some.line.text.now _ c.value_in-start.result _
    c.in-Some.ensures.left (sym c.is_start_line.ensures ∙ c.if-not-is_start_line.false)
    c.value_in-start.ensures.gives c.reading_at.ensures
