use Rattle.line_model.proofs.EventsMade.{count_payloads}
use Rattle.line_model.proofs.laws.calls.states_count_frames.Goals as goal

pub returns : goal.returns
returns c = record { count = count_payloads }
