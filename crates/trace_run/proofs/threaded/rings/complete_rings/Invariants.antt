use Rattle.std.proofs.Common.{◌≡◌, ◌+◌, ◌-◌, ◌≤◌, IfOk, IfErr, vec_len}
use Rattle.std.specs.Vec.Iter.{into_iter_items, into_iter_len}
use Rattle.trace_run.specs.threaded.Threads.{AreRunning, AreRunLedgers, IsByGate}
use Rattle.trace_run.proofs.threaded.rings.complete_rings.Given as goal

abbrev pub invariant-loop-running : goal.invariant-loop-running
invariant-loop-running g l = record {
  left : into_iter_len l.running-iterator ≤ vec_len l.fn.threads;
  running : AreRunning l.job.script.now l.job.gate.now (vec_len l.fn.threads - into_iter_len l.running-iterator)
      (into_iter_items l.running-iterator);
  ledgers : IfOk l.ledgers (λ ledgers. AreRunLedgers g.G.Gate.answers l.job.gate.now l.job.script.now 0 ledgers.items
      × (vec_len ledgers + into_iter_len l.running-iterator ≡ vec_len l.fn.threads));
  shut : IfErr l.ledgers (IsByGate g.G.Gate.answers l.job.gate.now l.job.script.now.cpus);
}
