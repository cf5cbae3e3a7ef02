-- After the end of the shorter list no link differs.
use Rattle.std.proofs.Common.{◌∙◌, sym, ◌≤◌, min, length, arith}
use Rattle.step_text.proofs.LinksDiffer.{none_behind}
use Rattle.step_text.proofs.step_line.do_links_differ.Goals as goal

pub returns : goal.returns
returns c =
    let past : min (length c.args.olds.now) (length c.args.news.now) ≤ c.loop-position.position = omega arith in
    sym (c.loop-position.invariant ∙ none_behind _ _ c.loop-position.position past)
