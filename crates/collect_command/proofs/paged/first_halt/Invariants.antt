use Rattle.std.proofs.Common.{◌≡◌, drop}
use Rattle.collect_command.specs.Paged.{first_halt}
use Rattle.collect_command.proofs.paged.first_halt.Given as goal

abbrev pub invariant-loop-at : goal.invariant-loop-at
invariant-loop-at g l = first_halt l.at (drop l.at l.sources) ≡ first_halt 0 l.sources
