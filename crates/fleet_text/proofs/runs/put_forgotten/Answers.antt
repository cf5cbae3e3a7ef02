use Rattle.std.proofs.Common.{[], ◌∷◌, ◌-◌}
use Rattle.std.proofs.lemmas.List.{map-append}
use Rattle.fleet_text.specs.Runs.{run_seen}
use Rattle.fleet_text.proofs.RunsInOrder.{some_forgotten}
use Rattle.fleet_text.proofs.runs.put_forgotten.Goals as goal

pub returns-in_ok-push : goal.returns-in_ok-push
returns-in_ok-push c = (
  (0, c.bound-bound.result.0 - 1) ∷ [],
  some_forgotten c.args.at.now.known.now c.args.at.now.cpu.0 c.bound-bound.result.0 c.bound-bound.ensures
      c.if-bound-gt0.true,
  rw c.in_ok-push.ensures.items (map-append run_seen c.args.runs.now.items _),
)
