use Rattle.std.proofs.Common.{◌≡◌, ◌++◌, drop, map}
use Rattle.trace_dat.specs.Contents.{buffer_seen}
use Rattle.capture.specs.files.Files.{names_of_others}
use Rattle.capture.specs.files.Captures.{texts_held}
use Rattle.capture.proofs.files.others.add_others.Given as goal

abbrev pub invariant-loop-buffer : goal.invariant-loop-buffer
invariant-loop-buffer l =
    texts_held l.others.items ++ names_of_others l.name (map buffer_seen (drop l.buffer-index l.buffers))
    ≡ texts_held l.fn.others.items ++ names_of_others l.name (map buffer_seen l.buffers)
