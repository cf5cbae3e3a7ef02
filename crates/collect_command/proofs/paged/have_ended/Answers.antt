use Rattle.std.proofs.Common.{ap, ◌∙◌, not}
use Rattle.collect_command.specs.Paged.{HasEnded}
use Rattle.collect_command.proofs.PagedPrints.{each_past}
use Rattle.collect_command.proofs.paged.have_ended.Goals as goal

pub loop-source-preserved : goal.loop-source-preserved
loop-source-preserved g c =
    each_past (HasEnded g.R.Source.remaining g.R.Source.failed) c.args.sources.now c.loop-source.source-index
    c.source-item.result c.loop-source-test.true c.source-item.is
    (c.length_at_end.ensures (c.is_none.ensures ∙ ap not c.if-is_none.false)) c.loop-source.invariant
