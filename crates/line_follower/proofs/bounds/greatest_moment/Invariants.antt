use Rattle.std.proofs.Common.{◌≡◌, drop}
use Rattle.line_follower.specs.Known.{greatest_of}
use Rattle.line_follower.proofs.bounds.greatest_moment.Given as goal

abbrev pub invariant-loop-line : goal.invariant-loop-line
invariant-loop-line g l = greatest_of l.greatest (drop l.line-index l.lines) ≡ greatest_of l.fn.least.0 l.lines
