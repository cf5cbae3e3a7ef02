use Rattle.line_model.proofs.ReplayedLines.{replay_makes_lines, worlds_make_lines}
use Rattle.line_model.proofs.laws.replays.replays_make_lines.Goals as goal

pub returns : goal.returns
returns c = record { behind = replay_makes_lines; whole = worlds_make_lines }
