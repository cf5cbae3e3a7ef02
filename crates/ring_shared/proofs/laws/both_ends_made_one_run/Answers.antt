use Rattle.ring_shared.proofs.OneRun.{runs_are_reached, writer_steps_stand, reader_steps_stand}
use Rattle.ring_shared.proofs.laws.both_ends_made_one_run.Goals as goal

pub returns-clause-reached : goal.returns-clause-reached
returns-clause-reached c = runs_are_reached

pub returns-clause-writer : goal.returns-clause-writer
returns-clause-writer c = writer_steps_stand

pub returns-clause-reader : goal.returns-clause-reader
returns-clause-reader c = reader_steps_stand
