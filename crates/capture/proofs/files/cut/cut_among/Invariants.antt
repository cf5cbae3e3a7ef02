use Rattle.std.proofs.Common.{◌≡◌, drop, map}
use Rattle.trace_dat.specs.Contents.{recorded_seen}
use Rattle.capture.specs.files.Files.{cut_among}
use Rattle.capture.proofs.files.cut.cut_among.Given as goal

abbrev pub invariant-loop-recorded : goal.invariant-loop-recorded
invariant-loop-recorded l =
    cut_among (map recorded_seen (drop l.recorded-index l.cpus)) ≡ cut_among (map recorded_seen l.cpus)
