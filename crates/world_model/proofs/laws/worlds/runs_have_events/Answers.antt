use Rattle.world_model.proofs.RunEvents.{run_reports, lost_in_full}
use Rattle.world_model.proofs.laws.worlds.runs_have_events.Goals as goal

pub returns : goal.returns
returns c = record { reported = run_reports; full = lost_in_full }
