use Rattle.std.proofs.Common.{◌≡◌, true, List, take}
use Rattle.capture.specs.Pages.{Page}
use Rattle.capture.specs.files.Files.{ModelPart}
use Rattle.collect_command.specs.Gathered.{AreReadFrom}
use Rattle.collect_command.specs.Listings.{are_all_intact}
use Rattle.collect_command.proofs.listing.are_intact.Given as goal

abbrev pub invariant-loop-found : goal.invariant-loop-found
invariant-loop-found l =
    (parts : List ModelPart) (captures : List (List Page)) → AreReadFrom parts 0 (take l.found-index l.cpus) captures
    → are_all_intact captures ≡ true
