use Rattle.std.proofs.Common.{◌≡◌, ◌≢◌, ◌+◌, IfOk, IfErr, vec_len}
use Rattle.std.specs.Vec.Iter.{into_iter_len}
use Rattle.trace_script.specs.declared.replay_fault.ReplayFault.TheVariants.{GateShut}
use Rattle.trace_run.proofs.threaded.collecting.join_collectors.Given as goal

abbrev pub invariant-loop-thread : goal.invariant-loop-thread
invariant-loop-thread g l = record {
  count : IfOk l.joined (λ collectors. vec_len collectors + into_iter_len l.thread-iterator ≡ vec_len l.fn.threads);
  fault : IfErr l.joined (λ fault. fault ≢ GateShut);
}
