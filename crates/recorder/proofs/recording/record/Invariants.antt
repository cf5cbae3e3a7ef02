use Rattle.tracering.specs.Rings.{IsWriter}
use Rattle.recorder.proofs.recording.record.Given as goal

abbrev pub invariant-loop-moment : goal.invariant-loop-moment
invariant-loop-moment l = IsWriter l.writer
