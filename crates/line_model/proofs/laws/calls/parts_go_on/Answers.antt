use Rattle.line_model.proofs.PartsJoined.{parts_go_on, start_between}
use Rattle.line_model.proofs.laws.calls.parts_go_on.Goals as goal

pub returns : goal.returns
returns c = record { one_more = parts_go_on; start = start_between }
