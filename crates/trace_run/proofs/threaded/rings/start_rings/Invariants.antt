use Rattle.std.proofs.Common.{◌≡◌, ◌≤◌, vec_len, vec_capacity}
use Rattle.trace_run.specs.threaded.Threads.{AreRunning}
use Rattle.trace_run.proofs.threaded.rings.start_rings.Given as goal

abbrev pub invariant-loop-cpu : goal.invariant-loop-cpu
invariant-loop-cpu g l = record {
  count : vec_len l.threads ≡ l.cpu;
  room : l.cpus ≤ vec_capacity l.threads;
  running : AreRunning l.job.script.now l.job.gate.now 0 l.threads.items;
}
