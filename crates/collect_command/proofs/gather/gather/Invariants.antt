use Rattle.std.proofs.Common.{List, take}
use Rattle.trace_model.specs.Collection.{IsSame}
use Rattle.capture.specs.Pages.{Page}
use Rattle.capture.specs.Rings.{parcels_of_captures}
use Rattle.capture.specs.files.Files.{ModelPart}
use Rattle.collect_command.specs.Gathered.{AreReadFrom}
use Rattle.collect_command.proofs.gather.gather.Given as goal

abbrev pub invariant-loop-found : goal.invariant-loop-found
invariant-loop-found l =
    (parts : List ModelPart) (captures : List (List Page)) → AreReadFrom parts 0 (take l.found-index l.cpus) captures
    → IsSame l.collector (parcels_of_captures 0 captures)
