use Rattle.std.proofs.Common.{drop}
use Rattle.collect_command.specs.Paged.{CpusRise}
use Rattle.collect_command.proofs.paged.are_rising.Given as goal

abbrev pub invariant-loop-source : goal.invariant-loop-source
invariant-loop-source g l = CpusRise l.next (drop l.source-index l.sources) → CpusRise 0 l.sources
