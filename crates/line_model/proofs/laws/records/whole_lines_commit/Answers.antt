use Rattle.line_model.proofs.WrittenLines.{whole_lines_commit, whole_lines_have_committed}
use Rattle.line_model.proofs.laws.records.whole_lines_commit.Goals as goal

pub returns : goal.returns
returns c = record { all = whole_lines_commit; so_far = whole_lines_have_committed }
