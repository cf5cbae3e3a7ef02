use Rattle.std.specs.Prelude.{◌≡◌, length}
use Rattle.tracering.specs.Rings.{IsReader}
use Rattle.recorder.specs.declared.TheConstants.{SIZE}
use Rattle.recorder.proofs.taking.take_pages.Given as goal

abbrev pub invariant-loop : goal.invariant-loop
invariant-loop l = IsReader l.reader × (l.reader.shape.size ≡ SIZE) × (length l.body ≡ SIZE)
