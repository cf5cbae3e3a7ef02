use Rattle.std.proofs.Common.{◌≡◌, drop, map}
use Rattle.trace_dat.specs.Contents.{buffer_seen}
use Rattle.capture.specs.files.Files.{each_of, parts_of_buffer}
use Rattle.capture.specs.files.Giving.{part_seen, with_list}
use Rattle.capture.proofs.files.parts.put_buffers.Given as goal

abbrev pub invariant-loop-buffer : goal.invariant-loop-buffer
invariant-loop-buffer l =
    with_list (map part_seen l.parts.items) (each_of (parts_of_buffer l.name) (map buffer_seen
    (drop l.buffer-index l.buffers)))
    ≡ with_list (map part_seen l.fn.parts.items) (each_of (parts_of_buffer l.name) (map buffer_seen l.buffers))
