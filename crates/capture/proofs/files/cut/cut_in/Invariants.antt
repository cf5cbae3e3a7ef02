use Rattle.std.proofs.Common.{◌≡◌, drop, map}
use Rattle.trace_dat.specs.Contents.{buffer_seen}
use Rattle.capture.specs.files.Files.{cut_in}
use Rattle.capture.proofs.files.cut.cut_in.Given as goal

abbrev pub invariant-loop-buffer : goal.invariant-loop-buffer
invariant-loop-buffer l =
    cut_in l.name (map buffer_seen (drop l.buffer-index l.buffers)) ≡ cut_in l.name (map buffer_seen l.buffers)
