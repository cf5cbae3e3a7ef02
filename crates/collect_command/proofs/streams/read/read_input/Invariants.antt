use Rattle.std.proofs.Common.{◌≡◌, ◌-◌, ◌^◌, false}
use Rattle.parcel_streams.specs.source.Readers.{source_of, index_of}
use Rattle.collect_command.proofs.Readings.{IsReadSoFar}
use Rattle.collect_command.proofs.streams.read.read_input.Given as goal

abbrev pub invariant-pieces : goal.invariant-pieces
invariant-pieces g l = record {
  sound : g.R.Source.failed (source_of l.reader) ≡ false;
  so_far : IsReadSoFar g.R.Source.remaining g.T.TakesPieces.takes l.input l.fn.reader l.reader
      (l.fn.taker, l.fn.writer) (l.taker, l.writer);
}

abbrev pub decreases-pieces : goal.decreases-pieces
decreases-pieces g l = 2 ^ 64 - 1 - index_of l.reader
