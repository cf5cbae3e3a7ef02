use Rattle.line_model.proofs.WrittenLines.{lines_from_rest_commit}
use Rattle.line_model.proofs.laws.records.lines_from_rest_commit.Goals as goal

pub returns : goal.returns
returns c = record { one = lines_from_rest_commit }
