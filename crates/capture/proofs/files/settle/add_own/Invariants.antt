use Rattle.std.proofs.Common.{◌≡◌, map, take}
use Rattle.page_image.specs.Images.{missed_of}
use Rattle.capture.specs.files.Files.{parts_of_cpu}
use Rattle.capture.specs.files.Captures.{IsCpuRead}
use Rattle.capture.specs.files.Giving.{part_seen}
use Rattle.capture.proofs.files.settle.add_own.Given as goal

abbrev pub invariant-loop-part : goal.invariant-loop-part
invariant-loop-part l = record {
  cpu : l.found.capture.cpu ≡ l.cpu;
  read : IsCpuRead (missed_of l.known) l.cpu.0 (parts_of_cpu l.cpu.0 (map part_seen (take l.part-index l.parts)))
      l.found;
}
