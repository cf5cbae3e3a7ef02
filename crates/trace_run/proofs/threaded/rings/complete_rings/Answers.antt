use Rattle.std.specs.Prelude.{Vec, vec_len, IfErr}
use Rattle.std.specs.declared.alloc.Global.{Global}
use Rattle.std.proofs.Common.{◌≡◌, ◌+◌, ◌-◌, subst, arith}
use Rattle.std.specs.Vec.Iter.{into_iter_items, into_iter_len}
use Rattle.text_model.specs.Script.{Script}
use Rattle.trace_run.specs.declared.ledgers.ledger.Ledger.{Ledger}
use Rattle.trace_run.specs.threaded.Asked.{IsPassedLedger}
use Rattle.trace_run.specs.threaded.Threads.{AreRunLedgers, IsByGate}
use Rattle.trace_run.proofs.Rows.{running_next, ledger_pushed, joined_on}
use Rattle.trace_run.proofs.threaded.rings.complete_rings.Goals as goal

pub loop-running-preserved : goal.loop-running-preserved
loop-running-preserved g c =
    let was = c.loop-running.invariant in
    let step = c.in-Some.ensures.steps in
    let job = c.args.job.now in
    let threads = c.in-Some.running in
    let total = vec_len c.args.threads in
    let left = into_iter_len c.loop-running.running-iterator in
    let after = into_iter_len c.next.new.self in
    let next = running_next job.script.now job.gate.now (total - left) (total - after)
    (into_iter_items c.loop-running.running-iterator) (into_iter_items c.next.new.self) threads was.running step.0
    (omega (arith, was.left, step.1)) in
    let joined = joined_on
    (λ (all : Vec Ledger Global).
    AreRunLedgers g.G.Gate.answers job.gate.now job.script.now 0 all.items × (vec_len all + left ≡ total))
    (λ (all : Vec Ledger Global).
    AreRunLedgers g.G.Gate.answers job.gate.now job.script.now 0 all.items × (vec_len all + after ≡ total))
    (IsPassedLedger g.G.Gate.answers job.gate.now threads.script threads.cpu)
    (IsByGate g.G.Gate.answers job.gate.now job.script.now.cpus)
    c.loop-running.ledgers c.complete.result c.with_next-ledgers.result
    c.with_next-ledgers.ensures.more c.with_next-ledgers.ensures.fault
    was.ledgers was.shut c.complete.ensures.ledger
    (subst (λ (s : Script). IfErr c.complete.result (IsByGate g.G.Gate.answers job.gate.now s.cpus)) next.0.1
    c.complete.ensures.shut)
    (λ e. absurd (cc))
    (λ all one more (are, count) is items len. (
      ledger_pushed g.G.Gate.answers job.script.now job.gate.now (total - left) threads all.items more.items one next.0
          is are
          (omega (arith, count, all.ok.0)) items,
      omega (arith, count, len, step.1),
    )) in record {
      left = omega (arith, was.left, step.1);
      running = next.1;
      ledgers = joined.0;
      shut = joined.1;
    }
