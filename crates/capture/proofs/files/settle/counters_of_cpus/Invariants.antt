use Rattle.std.proofs.Common.{◌≡◌, ℕ, ◌≤◌, ◌<◌, length, map, drop, Some}
use Rattle.std.specs.List.{slice_get}
use Rattle.trace_model.specs.declared.limits.TheConstants.{MAX_CPUS}
use Rattle.capture.specs.files.Losses.{cpu_counters_of}
use Rattle.capture.proofs.files.settle.counters_of_cpus.Given as goal

abbrev pub invariant-loop-at : goal.invariant-loop-at
invariant-loop-at l = record {
  within : l.at ≤ length l.texts;
  each : (cpu : ℕ) → cpu < MAX_CPUS
      → slice_get l.counted cpu ≡ Some (cpu_counters_of cpu (map (λ text. text.now) (drop l.at l.texts)));
}

abbrev pub decreases-loop-at : goal.decreases-loop-at
decreases-loop-at l = l.at
