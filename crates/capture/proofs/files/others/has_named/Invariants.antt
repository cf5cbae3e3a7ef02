use Rattle.std.proofs.Common.{◌≡◌, drop, map}
use Rattle.trace_dat.specs.Contents.{buffer_seen}
use Rattle.capture.specs.files.Files.{has_named}
use Rattle.capture.proofs.files.others.has_named.Given as goal

abbrev pub invariant-loop-buffer : goal.invariant-loop-buffer
invariant-loop-buffer l =
    has_named l.name (map buffer_seen (drop l.buffer-index l.buffers)) ≡ has_named l.name (map buffer_seen l.buffers)
