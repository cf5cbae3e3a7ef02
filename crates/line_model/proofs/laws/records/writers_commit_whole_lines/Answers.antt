use Rattle.line_model.proofs.WriterHistories.{writers_form_histories, writers_commit_whole_lines}
use Rattle.line_model.proofs.laws.records.writers_commit_whole_lines.Goals as goal

pub returns : goal.returns
returns c = record { formed = writers_form_histories; records = writers_commit_whole_lines }
