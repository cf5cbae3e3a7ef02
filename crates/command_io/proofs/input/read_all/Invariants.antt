use Rattle.std.proofs.Common.{◌≡◌, ◌+◌, ◌-◌, ◌≤◌, false, vec_len}
use Rattle.std.specs.Io.KnownBytes.{Consumes}
use Rattle.trace_model.specs.declared.limits.TheConstants.{MAX_INPUT}
use Rattle.command_io.specs.declared.input.TheConstants.{READ_CHUNK}
use Rattle.command_io.proofs.input.read_all.Given as goal

abbrev pub invariant-loop-text : goal.invariant-loop-text
invariant-loop-text g l = record {
  taken : Consumes (g.R.Source.remaining l.fn.reader) (g.R.Source.remaining l.reader) l.text.items;
  limited : vec_len l.text ≤ MAX_INPUT;
  roomy : vec_len l.chunk ≡ READ_CHUNK;
  sound : g.R.Source.failed l.reader ≡ false;
  at_least : vec_len l.text ≤ g.R.Source.count l.reader;
  at_most : g.R.Source.count l.reader ≤ g.R.Source.count l.fn.reader + vec_len l.text;
}

abbrev pub decreases-loop-text : goal.decreases-loop-text
decreases-loop-text g l = MAX_INPUT - vec_len l.text
