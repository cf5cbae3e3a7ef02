use Rattle.ring_model.proofs.frames.AnswersRight.{empty_right, moving_right, swapped_right}
use Rattle.ring_model.proofs.laws.answers.reader_answers_are_right.Goals as goal

pub returns : goal.returns
returns c = record { none = empty_right; moves = moving_right; takes = swapped_right }
