use Rattle.world_model.proofs.LineEnds.{frame_runs_short, reader_runs_short}
use Rattle.world_model.proofs.laws.lanes.lines_come_to_an_end.Goals as goal

pub returns : goal.returns
returns c = record { frames = frame_runs_short; takes = reader_runs_short }
