use Rattle.std.proofs.Common.{◌≡◌, length, map}
use Rattle.collector.specs.Runs.{run_numbers}
use Rattle.library_values.proofs.PutRuns.{ArePut}
use Rattle.library_values.proofs.listed_collector.listed.ListedCollector.put_missing.Given as goal

abbrev pub invariant-loop-first : goal.invariant-loop-first
invariant-loop-first l = (l.count ≡ length l.yielded) × ArePut l.initial.out (map run_numbers l.yielded) l.out
