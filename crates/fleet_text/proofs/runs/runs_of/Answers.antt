use Rattle.std.proofs.Common.{[], List, map, sym, subst}
use Rattle.fleet_text.specs.declared.run.FleetRun.{FleetRun}
use Rattle.fleet_text.specs.Runs.{run_seen, AreRunsOf, IsOfKindAmong}
use Rattle.fleet_text.proofs.RunsInOrder.{no_runs, next_cpu}
use Rattle.fleet_text.proofs.runs.runs_of.Goals as goal

pub loop-at-preserved : goal.loop-at-preserved
loop-at-preserved c =
    let put = c.in_ok-put_kind.ensures in
    next_cpu c.args.kind c.args.cpus.now c.loop-at.at-index c.at-item.result (map run_seen c.loop-at.runs.items) put.0
    (map run_seen c.put_kind.new.runs.items) c.requires c.loop-at-test.true c.at-item.is c.loop-at.invariant put.1 put.2

pub loop-at-init : goal.loop-at-init
loop-at-init c =
    subst (λ (xs : List FleetRun). AreRunsOf (IsOfKindAmong c.args.kind []) (map run_seen xs))
    (sym c.new-runs.ensures.items)
    (no_runs c.args.kind)
