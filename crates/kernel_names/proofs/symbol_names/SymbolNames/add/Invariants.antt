use Rattle.std.proofs.Common.{length}
use Rattle.kernel_names.proofs.SymbolLines.{IsLeft}
use Rattle.kernel_names.proofs.symbol_names.SymbolNames.add.Given as goal

abbrev pub invariant-loop-rest : goal.invariant-loop-rest
invariant-loop-rest l = IsLeft l.text l.left l.fn.self l.self

abbrev pub decreases-loop-rest : goal.decreases-loop-rest
decreases-loop-rest l = length l.left
