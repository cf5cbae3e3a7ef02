use Rattle.std.proofs.Common.{◌≡◌, None, drop}
use Rattle.std.specs.List.{AllByRecursion}
use Rattle.page_lines.specs.Sources.{Reading}
use Rattle.collect_command.proofs.paged.can_go_on.Given as goal

abbrev pub invariant-loop-source : goal.invariant-loop-source
invariant-loop-source g l =
    AllByRecursion (λ (s : Reading g.row.R.Denot). s.halt ≡ None) (drop l.source-index l.sources)
    → AllByRecursion (λ (s : Reading g.row.R.Denot). s.halt ≡ None) l.sources
