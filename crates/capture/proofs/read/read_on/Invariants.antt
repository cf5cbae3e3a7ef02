use Rattle.std.proofs.Common.{◌≡◌, ◌-◌, ◌^◌, ◌<◌, ◌≤◌, false, length, take}
use Rattle.std.specs.Io.KnownBytes.{IsAtEnd}
use Rattle.capture.proofs.ReadingOn.{ReadsWhole}
use Rattle.capture.proofs.read.read_on.Given as goal

abbrev pub invariant-loop-filled : goal.invariant-loop-filled
invariant-loop-filled g l = record {
  reads : ReadsWhole (length l.fn.piece) (take l.fn.filled l.fn.piece) (take l.filled l.piece)
      (g.R.Source.remaining l.fn.reader) (g.R.Source.remaining l.reader) l.fn.capture l.capture;
  low : l.fn.capture.pages ≤ l.capture.pages;
  within : l.filled ≤ length l.piece;
  at_end : l.filled < length l.piece → IsAtEnd (g.R.Source.remaining l.reader);
  sound : g.R.Source.failed l.reader ≡ false;
}

abbrev pub decreases-loop-filled : goal.decreases-loop-filled
decreases-loop-filled g l = 2 ^ 64 - l.capture.pages
