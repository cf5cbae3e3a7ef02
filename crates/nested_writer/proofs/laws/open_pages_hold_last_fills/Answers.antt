use Rattle.nested_writer.proofs.Runs.{runs_hold}
use Rattle.nested_writer.proofs.laws.open_pages_hold_last_fills.Goals as goal

pub returns : goal.returns
returns c = runs_hold
