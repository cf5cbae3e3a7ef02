-- A part of the calls for a frame.
use Rattle.std.specs.Prelude.{◌≡◌, ℕ, ◌-◌, ◌≤◌, List, length}
use Rattle.trace_model.specs.Steps.{Exchange}
use Rattle.line_model.specs.WriterCalls.{TopCalls}
use Rattle.ring_shared.specs.Value.{SameWriter}
use Rattle.trace_run.specs.declared.writers.writer.LineWriter.{LineWriter}
use Rattle.trace_run.specs.writers.LineWriters.{writer_in, payloads_of, IsLineWriter, HasMade}

-- `count` calls were made for the frame that was on top of a stack of `depth` frames
pub record HasMadeCalls (depth count : ℕ) (old new : LineWriter) : Type 0 where
  pub is : IsLineWriter new
  pub same : SameWriter old.writer new.writer
  pub calls : List Exchange
  pub made : length calls ≡ count
  pub run : TopCalls old.writer.shape.pages old.writer.shape.size old.writer.shape.start (depth - 1)
      (writer_in old.writer.part) (payloads_of old) calls (writer_in new.writer.part) (payloads_of new)
  pub has_made : HasMade old calls new
  pub few : length new.writer.part.frames ≤ depth
