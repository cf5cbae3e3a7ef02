use Rattle.ring_model.proofs.frames.AnswersRight.{crowded_right, worn_right}
use Rattle.ring_model.proofs.frames.RefusalsDue.{refusals_due}
use Rattle.ring_model.proofs.laws.answers.refusals_are_right.Goals as goal

pub returns : goal.returns
returns c = record { crowded = crowded_right; worn = worn_right; due = refusals_due }
