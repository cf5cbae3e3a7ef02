use Rattle.std.proofs.Common.{◌≡◌, length}
use Rattle.text_model.specs.Text.{fields_of, is_well_spaced}
use Rattle.trace_script.proofs.fields.is_well_spaced.Given as goal

abbrev pub invariant-loop-rest : goal.invariant-loop-rest
invariant-loop-rest l = is_well_spaced (fields_of l.line) ≡ is_well_spaced (fields_of l.left)

abbrev pub decreases-loop-rest : goal.decreases-loop-rest
decreases-loop-rest l = length l.left
