use Rattle.ring_shared.proofs.OneRun.{writer_calls_end_runs, reader_steps_end_runs}
use Rattle.ring_shared.proofs.laws.calls_end_runs.Goals as goal

pub returns-clause-writer : goal.returns-clause-writer
returns-clause-writer c = writer_calls_end_runs

pub returns-clause-reader : goal.returns-clause-reader
returns-clause-reader c = reader_steps_end_runs
