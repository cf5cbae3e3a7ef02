use Rattle.std.proofs.Common.{◌≡◌, ℕ, ◌<◌, length, map, Some}
use Rattle.std.specs.List.{slice_get}
use Rattle.trace_model.specs.declared.limits.TheConstants.{MAX_CPUS}
use Rattle.capture.specs.files.Losses.{cpu_counters_of}
use Rattle.capture.specs.files.Giving.{part_seen}
use Rattle.capture.proofs.Settled.{AreSettledTo}
use Rattle.capture.proofs.files.settle.settle.Given as goal

abbrev pub invariant-loop-cpu : goal.invariant-loop-cpu
invariant-loop-cpu l = record {
  count : length l.cpus ≡ MAX_CPUS;
  settled : AreSettledTo (λ cpu. cpu_counters_of cpu (map (λ text. text.now) l.texts)) (map part_seen l.parts) l.cpu
      l.cpus;
  known : (cpu : ℕ) → cpu < MAX_CPUS
      → slice_get l.counted cpu ≡ Some (cpu_counters_of cpu (map (λ text. text.now) l.texts));
}
