use Rattle.capture_text.specs.Selection.{selection_seen}
use Rattle.capture_text.specs.Window.{bound_at, listed_bound}
use Rattle.capture_text.proofs.Runs.{ArePut}
use Rattle.capture_text.proofs.losses.put_runs.Given as goal

abbrev pub invariant-loop-cpu : goal.invariant-loop-cpu
invariant-loop-cpu g l =
    ArePut l.form (listed_bound (selection_seen l.selection) (bound_at l.window)) l.collector l.cpu l.fn.out l.out
