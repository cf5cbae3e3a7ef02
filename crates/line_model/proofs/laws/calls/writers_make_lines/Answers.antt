use Rattle.line_model.proofs.LineCallsMade.{writer_makes_lines}
use Rattle.line_model.proofs.laws.calls.writers_make_lines.Goals as goal

pub returns : goal.returns
returns c = record { whole = writer_makes_lines }
