use Rattle.ring_model.proofs.histories.StepsAsEvents.{run_reported, run_extends, counts_rise}
use Rattle.ring_model.proofs.laws.windows.runs_move_window.Goals as goal

pub returns : goal.returns
returns c = record { runs = run_reported; extends = run_extends; rises = counts_rise }
