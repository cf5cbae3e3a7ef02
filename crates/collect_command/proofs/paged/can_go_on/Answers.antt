use Rattle.std.proofs.Common.{◌≡◌, None, sym, ◌∙◌}
use Rattle.page_lines.specs.Sources.{Reading}
use Rattle.collect_command.proofs.PagedPrints.{each_past, none_of}
use Rattle.collect_command.proofs.paged.can_go_on.Goals as goal

pub loop-source-preserved : goal.loop-source-preserved
loop-source-preserved g c =
    each_past (λ (s : Reading g.row.R.Denot). s.halt ≡ None) c.args.sources.now c.loop-source.source-index
    c.source-item.result c.loop-source-test.true c.source-item.is
    (sym c.halt.ensures.halt ∙ none_of c.halt.result (sym c.is_some.ensures ∙ c.if-is_some.false))
    c.loop-source.invariant
