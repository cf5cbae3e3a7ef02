use Rattle.std.proofs.Common.{◌≡◌, List, drop}
use Rattle.collect_command.specs.Paged.{RawFile, AreRawOf, raw_intact}
use Rattle.collect_command.proofs.paged.are_intact.Given as goal

abbrev pub invariant-loop-source : goal.invariant-loop-source
invariant-loop-source g l =
    (raws : List RawFile) → AreRawOf l.sources raws → raw_intact (drop l.source-index raws) ≡ raw_intact raws
