use Rattle.std.proofs.Common.{◌≡◌, map}
use Rattle.collector.specs.Runs.{run_numbers}
use Rattle.capture_text.specs.LossSums.{missing_count}
use Rattle.capture_text.proofs.LossSums.{Rise}
use Rattle.capture_text.proofs.sums.missing_count.Given as goal

abbrev pub invariant-loop-first : goal.invariant-loop-first
invariant-loop-first l = (l.count ≡ missing_count (map run_numbers l.yielded)) × Rise l.count l.first-iterator
