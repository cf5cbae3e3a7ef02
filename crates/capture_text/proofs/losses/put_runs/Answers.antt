use Rattle.capture_text.specs.Selection.{selection_seen}
use Rattle.capture_text.specs.Window.{bound_at, listed_bound}
use Rattle.capture_text.proofs.Runs.{runs_none, runs_put, runs_all}
use Rattle.capture_text.proofs.losses.put_runs.Goals as goal

pub loop-cpu-init : goal.loop-cpu-init
loop-cpu-init g c =
    runs_none c.args.form (listed_bound (selection_seen c.args.selection.now) (bound_at c.args.window.now))
    c.args.collector.now c.args.out.now

pub loop-cpu-preserved : goal.loop-cpu-preserved
loop-cpu-preserved g c =
    let more = c.put_runs_of.ensures in
    runs_put c.args.form (listed_bound (selection_seen c.args.selection.now) (bound_at c.args.window.now))
    c.args.collector.now c.loop-cpu.cpu _ more.0 _ _ _ c.of.ensures c.loop-cpu.invariant more.1 more.2

pub returns : goal.returns
returns g c =
    let put = c.loop-cpu.invariant in (
      put.runs,
      runs_all c.args.form (listed_bound (selection_seen c.args.selection.now) (bound_at c.args.window.now))
          c.args.collector.now c.loop-cpu.cpu _ _ c.parcels-parcels.ensures.sound c.loop-cpu-test.false put,
      put.put,
    )
