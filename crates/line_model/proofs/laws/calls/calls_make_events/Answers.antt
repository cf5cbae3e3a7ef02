use Rattle.line_model.proofs.CallEventsMade.{calls_make_events}
use Rattle.line_model.proofs.laws.calls.calls_make_events.Goals as goal

pub returns : goal.returns
returns c = record { make = calls_make_events }
