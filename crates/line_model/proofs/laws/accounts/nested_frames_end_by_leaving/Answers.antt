use Rattle.line_model.proofs.NestedFrames.{nested_frames_end_by_leaving}
use Rattle.line_model.proofs.laws.accounts.nested_frames_end_by_leaving.Goals as goal

pub returns : goal.returns
returns c = nested_frames_end_by_leaving
