use Rattle.std.proofs.Common.{◌≡◌, ◌≤◌, vec_len, vec_capacity}
use Rattle.trace_run.proofs.threaded.collecting.start_collectors.Given as goal

abbrev pub invariant-loop-started : goal.invariant-loop-started
invariant-loop-started g l = record {
  senders : vec_len l.senders ≡ l.started;
  room_for_senders : l.count ≤ vec_capacity l.senders;
  threads : vec_len l.threads ≡ l.started;
  room_for_threads : l.count ≤ vec_capacity l.threads;
}
