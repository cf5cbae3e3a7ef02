use Rattle.std.proofs.Common.{drop}
use Rattle.std.specs.List.{AllByRecursion}
use Rattle.collect_command.specs.Paged.{HasEnded}
use Rattle.collect_command.proofs.paged.have_ended.Given as goal

abbrev pub invariant-loop-source : goal.invariant-loop-source
invariant-loop-source g l =
    AllByRecursion (HasEnded g.R.Source.remaining g.R.Source.failed) (drop l.source-index l.sources)
    → AllByRecursion (HasEnded g.R.Source.remaining g.R.Source.failed) l.sources
