use Rattle.collect_command.proofs.AllRead.{AreReadSoFar}
use Rattle.collect_command.proofs.recovery.read.read_inputs.Given as goal

abbrev pub invariant-loop-input : goal.invariant-loop-input
invariant-loop-input g l =
    AreReadSoFar g.R.Source.remaining g.R.Source.count g.R.Source.failed l.fn.inputs l.inputs l.input l.regions.items
