use Rattle.line_model.proofs.ReplayedLines.{replay_commits_whole_lines}
use Rattle.line_model.proofs.laws.replays.replays_commit_whole_lines.Goals as goal

pub returns : goal.returns
returns c = record { records = replay_commits_whole_lines }
