use Rattle.std.proofs.Common.{◌≡◌, ◌≤◌, vec_len, vec_capacity}
use Rattle.trace_run.proofs.threaded.running.new_flags.Given as goal

abbrev pub invariant-loop-made : goal.invariant-loop-made
invariant-loop-made l = record { count : vec_len l.flags ≡ l.made; room : l.count ≤ vec_capacity l.flags }
