use Rattle.std.proofs.lemmas.Result.{err_from_is_err_and}
use Rattle.std.proofs.Common.{◌≡◌, ℕ, ◌<◌, List, length, get_or, Some, sym, subst, arith}
use Rattle.std.specs.List.{slice_get, AllZip}
use Rattle.text_model.specs.Script.{Command}
use Rattle.text_model.specs.ScriptLimits.{IsCommandWithin}
use Rattle.trace_script.specs.ScriptTypes.{shown_line}
use Rattle.line_model.specs.Lines.{writer_lines}
use Rattle.line_model.specs.ReplayedLines.{commands_of}
use Rattle.trace_run.specs.writers.Obeying.{IsLineAt}
use Rattle.trace_run.proofs.LinesMade.{IsNextLine, next_line, is_index, lines_none, one_line, all_lines, element}
use Rattle.trace_run.proofs.Passed.{asks_none, asks_then}
use Rattle.trace_run.proofs.writers.obeying.obey_indexed.Goals as goal

-- the line of the line_index that is read
line_of : (commands : List (ℕ × Command)) (indexes : List ℕ) (lines : List Command) (index line_index : ℕ)
    → AllZip (IsLineAt commands) indexes lines
    → index < length indexes
    → line_index ≡ get_or indexes index 0
    → IsNextLine commands lines index line_index
line_of commands indexes lines index line_index are low is =
    subst (λ (k : ℕ). IsNextLine commands lines index k) (sym is) (next_line commands indexes lines index 0 are low)

pub line-requires : goal.line-requires
line-requires g c =
    is_index c.args.script.now.commands c.commands-commands.result.now
    (writer_lines c.args.cpu.0 (commands_of c.args.script.now.commands)) c.loop-index.index
    c.get-line_index.result c.commands-commands.ensures.commands
    (line_of c.args.script.now.commands c.args.indexes.now
    (writer_lines c.args.cpu.0 (commands_of c.args.script.now.commands)) c.loop-index.index
    c.get-line_index.result c.requires.indexes (omega (arith, c.len-index-end.ensures)) c.get-line_index.ensures)

pub obey_line-requires-clause-within : goal.obey_line-requires-clause-within
obey_line-requires-clause-within g c κs within = (
  c.args.script.now.cpus,
  c.args.script.now.collectors,
  element (λ (line : ℕ × Command). IsCommandWithin c.args.script.now.cpus
      c.args.script.now.collectors line.1) c.args.script.now.commands c.get-line_index.result
      (shown_line c.line.result) c.commands-commands.ensures.limits.each_command
      (subst (λ (l : List (ℕ × Command)). slice_get l c.get-line_index.result ≡ Some (shown_line c.line.result))
      c.commands-commands.ensures.commands c.line.ensures),
)

pub loop-index-init : goal.loop-index-init
loop-index-init g c = record {
  lines = lines_none c.args.writer.now c.requires.is;
  asks = asks_none g.G.Gate.answers c.args.gate.now c.args.cpu.0 c.args.writer.now c.requires.is;
}

pub loop-index-preserved : goal.loop-index-preserved
loop-index-preserved g c = record {
  lines = one_line c.args.script.now.commands c.commands-commands.result.now
      (writer_lines c.args.cpu.0 (commands_of c.args.script.now.commands)) c.loop-index.index
      c.get-line_index.result (shown_line c.line.result)
      c.args.writer.now c.loop-index.writer c.obey_line.new.writer c.commands-commands.ensures.commands
      (line_of c.args.script.now.commands c.args.indexes.now
      (writer_lines c.args.cpu.0 (commands_of c.args.script.now.commands)) c.loop-index.index
      c.get-line_index.result c.requires.indexes (omega (arith, c.len-index-end.ensures)) c.get-line_index.ensures)
      c.line.ensures c.loop-index.invariant.lines c.in_ok-obey_line.ensures.line;
  asks =
      asks_then g.G.Gate.answers c.args.gate.now c.args.cpu.0 c.args.writer.now c.loop-index.writer
      c.obey_line.new.writer _
      c.loop-index.invariant.asks c.in_ok-obey_line.ensures.gate;
}

pub returns-in_err-obey_line-clause-gate : goal.returns-in_err-obey_line-clause-gate
returns-in_err-obey_line-clause-gate g c =
    let p = err_from_is_err_and c.from_residual.result c.from_residual.ensures.1 in
    rw (p.1, p.2)
    (asks_then g.G.Gate.answers c.args.gate.now c.args.cpu.0 c.args.writer.now c.loop-index.writer
    c.obey_line.new.writer _
    c.loop-index.invariant.asks c.in_err-obey_line.ensures.gate)

pub returns-clause-lines : goal.returns-clause-lines
returns-clause-lines g c =
    all_lines c.args.script.now.commands c.args.indexes.now
    (writer_lines c.args.cpu.0 (commands_of c.args.script.now.commands)) c.loop-index.index c.args.writer.now
    c.loop-index.writer c.requires.indexes (omega (arith, c.len-index-end.ensures)) c.loop-index.invariant.lines
