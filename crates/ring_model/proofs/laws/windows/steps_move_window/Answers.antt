use Rattle.ring_model.proofs.histories.WindowEvents.{one_window_event, nothing_happens}
use Rattle.ring_model.proofs.histories.HistorySteps.{step_owed}
use Rattle.ring_model.proofs.laws.windows.steps_move_window.Goals as goal
use Rattle.trace_model.proofs.steps.StepSound.{cases_of}

pub returns : goal.returns
returns c = record {
  window =
      λ n size start core event answer after r step.
      (step_owed n size start core event answer after r.links r.stack r.history (cases_of step)).window;
  one = one_window_event;
  none = nothing_happens;
}
