use Rattle.std.proofs.Common.{subst, arith}
use Rattle.trace_model.specs.Collection.{Misses}
use Rattle.collector.specs.FirstRun.{IsFirstRun, HoldsOfNone}
use Rattle.stream_collector.specs.Stream.{Stream, IsNotKnown}
use Rattle.stream_collector.proofs.BothRuns.{both_run, both_skip, both_none}
use Rattle.stream_collector.proofs.kinds.next_undelivered_run.Goals as goal

pub loop-first-init : goal.loop-first-init
loop-first-init c = record {
  from = omega arith;
  none = λ n low high both. omega arith;
}

pub returns-in-Some-next_not_known_run-clause-run : goal.returns-in-Some-next_not_known_run-clause-run
returns-in-Some-next_not_known_run-clause-run c =
    let s = c.args.stream.now in
    let cpu = c.args.cpu.0 in
    let run = c.in-Some-next_not_known_run.run' in
    both_run (Misses s.given_up cpu) (IsNotKnown s cpu) c.args.from.0 c.loop-first.at.0 c.args.end.0
    c.in-Some.first.0 c.in-Some.stop.0 run.0.0 run.1.0 c.loop-first.invariant.from c.loop-first.invariant.none
    (subst (λ (s : Stream). IsFirstRun
    (Misses s.given_up cpu) c.loop-first.at.0 c.args.end.0 c.in-Some.first.0 c.in-Some.stop.0)
    c.stream.view_is c.in-Some.ensures.run)
    c.in-Some-next_not_known_run.ensures.run

pub loop-first-preserved : goal.loop-first-preserved
loop-first-preserved c =
    let s = c.args.stream.now in
    let cpu = c.args.cpu.0 in
    let one : IsFirstRun (Misses s.given_up cpu) c.loop-first.at.0 c.args.end.0 c.in-Some.first.0 c.in-Some.stop.0 =
    subst (λ (s : Stream). IsFirstRun
    (Misses s.given_up cpu) c.loop-first.at.0 c.args.end.0 c.in-Some.first.0 c.in-Some.stop.0)
    c.stream.view_is c.in-Some.ensures.run in
    record {
      from = let a = c.loop-first.invariant.from in let b = one.after in let d = one.forward in omega arith;
      none = both_skip (Misses s.given_up cpu) (IsNotKnown s cpu) c.args.from.0 c.loop-first.at.0 c.args.end.0
          c.in-Some.first.0 c.in-Some.stop.0 c.loop-first.invariant.none one
          c.in_default-next_not_known_run.ensures.none;
    }

pub returns-clause-none : goal.returns-clause-none
returns-clause-none c =
    let s = c.args.stream.now in
    let cpu = c.args.cpu.0 in
    both_none (Misses s.given_up cpu) (IsNotKnown s cpu) c.args.from.0 c.loop-first.at.0 c.args.end.0
    c.loop-first.invariant.none
    (subst (λ (s : Stream). HoldsOfNone (Misses s.given_up cpu) c.loop-first.at.0 c.args.end.0)
    c.stream.view_is c.in_default.ensures.none)
