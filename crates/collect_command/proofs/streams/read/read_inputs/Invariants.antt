use Rattle.collect_command.proofs.Inputs.{AreReadSoFar}
use Rattle.collect_command.proofs.streams.read.read_inputs.Given as goal

abbrev pub invariant-loop-input : goal.invariant-loop-input
invariant-loop-input g l =
    AreReadSoFar g.R.Source.remaining g.R.Source.failed g.T.TakesPieces.takes g.T.TakesPieces.refuses l.fn.inputs
    l.inputs l.input (l.fn.taker, l.fn.writer) (l.taker, l.writer)
