use Rattle.std.proofs.Common.{◌≡◌, ◌-◌, ◌^◌, ℕ, List, ◌++◌, false, vec_len}
use Rattle.std.specs.Io.KnownBytes.{Consumes}
use Rattle.command_io.specs.declared.input.TheConstants.{READ_CHUNK}
use Rattle.capture.proofs.files.first.read_rest.Given as goal

abbrev pub invariant-loop-count : goal.invariant-loop-count
invariant-loop-count g l = record {
  read : (more : List ℕ) × (l.file.items ≡ l.fn.first ++ more)
      × Consumes (g.R.Source.remaining l.fn.reader) (g.R.Source.remaining l.reader) more;
  roomy : vec_len l.chunk ≡ READ_CHUNK;
  sound : g.R.Source.failed l.reader ≡ false;
}

abbrev pub decreases-loop-count : goal.decreases-loop-count
decreases-loop-count g l = 2 ^ 63 - vec_len l.file
