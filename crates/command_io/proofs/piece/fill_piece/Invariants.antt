use Rattle.std.proofs.Common.{◌≡◌, ◌-◌, ◌≤◌, false, length, take}
use Rattle.std.specs.Io.KnownBytes.{Consumes}
use Rattle.command_io.proofs.piece.fill_piece.Given as goal

abbrev pub invariant-loop-filled : goal.invariant-loop-filled
invariant-loop-filled g l = record {
  taken : Consumes (g.R.Source.remaining l.fn.reader) (g.R.Source.remaining l.reader) (take l.filled l.piece);
  within : l.filled ≤ length l.piece;
  sound : g.R.Source.failed l.reader ≡ false;
}

abbrev pub decreases-loop-filled : goal.decreases-loop-filled
decreases-loop-filled g l = length l.piece - l.filled
