use Rattle.std.proofs.Common.{◌≡◌, suc, ◌-◌, sym, ◌∙◌, ap, arith}
use Rattle.trace_script.specs.Kept.{start_of}
use Rattle.trace_script.proofs.KeptLemmas.{start_behind}
use Rattle.trace_script.proofs.kept_lines.KeptLines.start.Goals as goal

pub returns : goal.returns
returns c =
    let some = c.if-index-eq0.false in
    let same : c.args.index ≡ suc (c.args.index - 1) = omega arith in
    sym (ap (start_of 0 c.args.self.now) same ∙ start_behind 0 c.args.self.now (c.args.index - 1) _ c.line.ensures)
