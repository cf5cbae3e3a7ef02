use Rattle.collector_text.proofs.RunsBehind.{ArePut}
use Rattle.collector_text.proofs.runs.put_runs.Given as goal

abbrev pub invariant-loop-cpu : goal.invariant-loop-cpu
invariant-loop-cpu l = ArePut l.collector l.cpu l.initial.out.items l.out.items
