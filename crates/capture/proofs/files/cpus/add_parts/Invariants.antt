use Rattle.std.proofs.Common.{List, ◌++◌, take, map}
use Rattle.trace_model.specs.Image.{unknown}
use Rattle.capture.specs.files.Files.{ModelPart}
use Rattle.capture.specs.files.Captures.{AreCpusRead}
use Rattle.capture.specs.files.Giving.{part_seen}
use Rattle.capture.proofs.files.cpus.add_parts.Given as goal

abbrev pub invariant-loop-part : goal.invariant-loop-part
invariant-loop-part l =
    (before : List ModelPart) → AreCpusRead unknown before l.fn.cpus
    → AreCpusRead unknown (before ++ map part_seen (take l.part-index l.parts)) l.cpus
