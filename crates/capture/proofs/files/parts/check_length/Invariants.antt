use Rattle.std.proofs.Common.{◌≡◌, ◌+◌, drop, map}
use Rattle.capture.specs.files.Files.{bytes_in}
use Rattle.capture.specs.files.Giving.{part_seen}
use Rattle.capture.proofs.files.parts.check_length.Given as goal

abbrev pub invariant-loop-part : goal.invariant-loop-part
invariant-loop-part l =
    bytes_in (map part_seen l.parts) + l.left ≡ l.len + bytes_in (map part_seen (drop l.part-index l.parts))
