use Rattle.line_model.proofs.ExamplesMade.{one_write, refused_begin, begin_and_steps, nested_frames, no_dropped_write}
use Rattle.line_model.proofs.ExamplesMade.{records_of_three}
use Rattle.line_model.proofs.laws.lines.lines_make_histories.Goals as goal

pub returns : goal.returns
returns c = assumption (one_write, refused_begin, begin_and_steps, nested_frames, no_dropped_write, records_of_three)
