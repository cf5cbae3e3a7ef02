use Rattle.std.proofs.Common.{map}
use Rattle.fleet_text.specs.declared.run.RunKind.TheVariants.{Missing, Unknown, Undelivered, Forgotten}
use Rattle.fleet_text.specs.Cpus.{cpu_seen}
use Rattle.fleet_text.specs.Runs.{run_seen}
use Rattle.fleet_text.proofs.RunsInOrder.{all_runs}
use Rattle.fleet_text.proofs.listed.Listed.new.Goals as goal

pub returns : goal.returns
returns c =
    let fleet = c.args.fleet.now in
    let cpus = map cpu_seen c.in_ok-cpus.cpus.items in
    let are = c.in_ok-cpus.ensures in
    record {
      lines = c.in_ok-listing.ensures;
      missing = all_runs Missing fleet cpus (map run_seen c.in_ok-runs_of.field-0.items) are
          (rw c.deref.ensures.value at c.in_ok-runs_of.ensures);
      unknown = all_runs Unknown fleet cpus (map run_seen c.in_ok-runs_of-2.field-0.items) are
          (rw c.deref-2.ensures.value at c.in_ok-runs_of-2.ensures);
      undelivered = all_runs Undelivered fleet cpus (map run_seen c.in_ok-runs_of-3.field-0.items) are
          (rw c.deref-3.ensures.value at c.in_ok-runs_of-3.ensures);
      forgotten = all_runs Forgotten fleet cpus (map run_seen c.in_ok-runs_of-4.field-0.items) are
          (rw c.deref-4.ensures.value at c.in_ok-runs_of-4.ensures);
    }
