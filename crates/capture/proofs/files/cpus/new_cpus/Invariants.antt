use Rattle.std.proofs.Common.{◌≡◌, ℕ, [], vec_len, Some}
use Rattle.std.specs.List.{slice_get}
use Rattle.trace_model.specs.Image.{unknown}
use Rattle.capture.specs.declared.files.captured.CpuCapture.{CpuCapture}
use Rattle.capture.specs.files.Captures.{IsCpuRead}
use Rattle.capture.proofs.files.cpus.new_cpus.Given as goal

abbrev pub invariant-loop-cpu : goal.invariant-loop-cpu
invariant-loop-cpu l = record {
  count : vec_len l.cpus ≡ l.cpu;
  each : (cpu : ℕ) (found : CpuCapture) → slice_get l.cpus.items cpu ≡ Some found → IsCpuRead unknown cpu [] found;
}
