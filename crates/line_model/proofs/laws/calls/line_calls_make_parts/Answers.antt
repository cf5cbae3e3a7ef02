use Rattle.line_model.proofs.LineCallsMade.{line_calls_make, lines_calls_make, rest_calls_make}
use Rattle.line_model.proofs.laws.calls.line_calls_make_parts.Goals as goal

pub returns : goal.returns
returns c = record { line = line_calls_make; lines = lines_calls_make; rest = rest_calls_make }
