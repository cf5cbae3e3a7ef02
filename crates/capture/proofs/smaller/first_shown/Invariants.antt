use Rattle.std.proofs.Common.{◌≡◌, drop}
use Rattle.capture.specs.Smaller.{first_shown}
use Rattle.capture.proofs.smaller.first_shown.Given as goal

abbrev pub invariant-loop-size : goal.invariant-loop-size
invariant-loop-size l = first_shown (drop l.size-index l.sizes) l.page ≡ first_shown l.sizes l.page
