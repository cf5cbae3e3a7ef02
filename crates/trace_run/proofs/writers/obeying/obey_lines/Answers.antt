use Rattle.std.proofs.lemmas.Result.{err_from_is_err_and}
use Rattle.std.proofs.Common.{◌∙◌}
use Rattle.trace_run.proofs.LinesMade.{obeyed}
use Rattle.trace_run.proofs.Passed.{whole_passed, shut_on_lines, shut_on_rest}
use Rattle.trace_run.proofs.writers.obeying.obey_lines.Goals as goal

pub returns : goal.returns
returns g c = (
  obeyed c.args.cpu.0 c.args.script.now.commands c.args.end c.new-writer.result c.obey_indexed.new.writer
      c.finish_rest.new.self c.requires.first (c.new-writer.ensures.writer ∙ c.end.view_is)
      c.new-writer.ensures.payloads
      c.in_ok-obey_indexed.ensures.lines c.in_ok-finish_rest.ensures.rest,
  whole_passed g.G.Gate.answers c.args.gate.now c.args.cpu.0 c.args.end c.new-writer.result c.obey_indexed.new.writer
      (c.new-writer.ensures.writer ∙ c.end.view_is) c.finish_rest.new.self c.in_ok-obey_indexed.ensures.gate
      c.in_ok-finish_rest.ensures.gate,
)

pub returns-in_err-obey_indexed : goal.returns-in_err-obey_indexed
returns-in_err-obey_indexed g c =
    let p = err_from_is_err_and c.from_residual.result c.from_residual.ensures.1 in
    rw (p.1, p.2)
    (shut_on_lines g.G.Gate.answers c.args.gate.now c.args.cpu.0 c.args.end c.new-writer.result
    c.obey_indexed.new.writer
    (c.new-writer.ensures.writer ∙ c.end.view_is) _ c.in_err-obey_indexed.ensures.gate)

pub returns-in_err-finish_rest : goal.returns-in_err-finish_rest
returns-in_err-finish_rest g c =
    let p =
    err_from_is_err_and c.from_residual-in_err-finish_rest.result c.from_residual-in_err-finish_rest.ensures.1 in
    rw (p.1, p.2)
    (shut_on_rest g.G.Gate.answers c.args.gate.now c.args.cpu.0 c.args.end c.new-writer.result
    c.obey_indexed.new.writer
    (c.new-writer.ensures.writer ∙ c.end.view_is) c.finish_rest.new.self _ c.in_ok-obey_indexed.ensures.gate
    c.in_err-finish_rest.ensures.gate)
