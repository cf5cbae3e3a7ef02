use Rattle.std.proofs.Common.{◌≡◌, false}
use Rattle.parcel_streams.specs.source.Readers.{source_of}
use Rattle.library_tests.proofs.pieces.compare.Given as goal

abbrev pub invariant-pieces : goal.invariant-pieces
invariant-pieces g l = g.R.Source.failed (source_of l.reader) ≡ false
