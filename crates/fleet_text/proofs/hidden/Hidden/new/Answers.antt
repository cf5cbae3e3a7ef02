use Rattle.std.proofs.Common.{◌∙◌, map}
use Rattle.fleet_text.specs.declared.run.RunKind.TheVariants.{Undelivered}
use Rattle.fleet_text.specs.Cpus.{cpu_seen}
use Rattle.fleet_text.specs.Runs.{run_seen}
use Rattle.fleet_text.proofs.HiddenRuns.{noted_runs}
use Rattle.fleet_text.proofs.RunsInOrder.{all_runs}
use Rattle.fleet_text.proofs.hidden.Hidden.new.Goals as goal

pub returns : goal.returns
returns c = λ pieces given_is told.
    let noted = c.in_ok-noted.noted in
    let cpus = map cpu_seen c.in_ok-cpus.cpus.items in
    let runs = map run_seen c.in_ok-runs.runs.items in
    noted_runs pieces (map run_seen c.given.inside.runs.items) runs c.args.fleet.now noted
    (c.given.view_is ∙ given_is) told (rw c.deref.ensures.value at c.in_ok-noted.ensures)
    (all_runs Undelivered noted cpus runs c.in_ok-cpus.ensures
    (rw c.deref-2.ensures.value at c.in_ok-runs.ensures))
