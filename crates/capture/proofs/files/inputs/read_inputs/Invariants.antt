use Rattle.std.proofs.Common.{◌≡◌, length}
use Rattle.capture.proofs.InputsRead.{ReadsTo, IsChosen}
use Rattle.capture.proofs.files.inputs.read_inputs.Given as goal

abbrev pub invariant-loop-at : goal.invariant-loop-at
invariant-loop-at g l = record {
  reads : ReadsTo g.R.Source.remaining g.R.Source.failed l.losses l.page l.name l.fn.inputs l.inputs l.at l.captured;
  chosen : IsChosen l.losses (length l.fn.inputs);
  wanted : l.captured.wanted ≡ l.fn.wanted;
}
