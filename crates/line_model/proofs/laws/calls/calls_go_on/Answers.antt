use Rattle.line_model.proofs.PartsJoined.{top_calls_go_on, lines_calls_go_on, rest_calls_go_on}
use Rattle.line_model.proofs.laws.calls.calls_go_on.Goals as goal

pub returns : goal.returns
returns c = record { top = top_calls_go_on; lines = lines_calls_go_on; rest = rest_calls_go_on }
