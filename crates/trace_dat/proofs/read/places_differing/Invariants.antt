use Rattle.std.proofs.Common.{◌≡◌, ◌+◌, ◌≤◌, drop}
use Rattle.trace_dat.specs.Versions.{places_differing}
use Rattle.trace_dat.proofs.read.places_differing.Given as goal

abbrev pub invariant-loop-at : goal.invariant-loop-at
invariant-loop-at l = record {
  whole : l.count + places_differing (drop l.at l.file) (drop l.at l.word) ≡ places_differing l.file l.word;
  low : l.count ≤ l.at;
}
