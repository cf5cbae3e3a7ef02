use Rattle.trace_model.proofs.steps.StepSound.{cases_of}
use Rattle.trace_model.proofs.steps.StepIs.{step_by}
use Rattle.ring_model.proofs.seats.SeatSteps.{writer_reads_no_reader, writer_leaves_reader, reader_reads_no_writer}
use Rattle.ring_model.proofs.seats.SeatSteps.{reader_leaves_writer}
use Rattle.ring_model.proofs.seats.SeatPages.{reader_leaves_open_pages}
use Rattle.ring_model.proofs.laws.seats.seats_are_apart.Goals as goal

pub returns : goal.returns
returns c = record {
  writer_reads =
      λ n size core event answer after part writes step.
      step_by (writer_reads_no_reader n size core event answer after part writes (cases_of step));
  writer_leaves = writer_leaves_reader;
  reader_reads =
      λ n size core event answer after part reads step.
      step_by (reader_reads_no_writer n size core event answer after part reads (cases_of step));
  reader_leaves =
      λ n size core event answer after reads step.
      reader_leaves_writer n size core event answer after reads (cases_of step);
  pages =
      λ n size start core event answer after kept reads step.
      reader_leaves_open_pages n size start core event answer after kept reads (cases_of step);
}
