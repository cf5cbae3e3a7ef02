use Rattle.std.proofs.Common.{◌≡◌, drop, map}
use Rattle.trace_dat.specs.Contents.{recorded_seen}
use Rattle.capture.specs.files.Files.{each_of, part_of}
use Rattle.capture.specs.files.Giving.{part_seen, with_list}
use Rattle.capture.proofs.files.parts.put_parts.Given as goal

abbrev pub invariant-loop-recorded : goal.invariant-loop-recorded
invariant-loop-recorded l =
    with_list (map part_seen l.parts.items)
    (each_of (part_of l.size.bytes) (map recorded_seen (drop l.recorded-index l.cpus)))
    ≡ with_list (map part_seen l.fn.parts.items) (each_of (part_of l.size.bytes) (map recorded_seen l.cpus))
