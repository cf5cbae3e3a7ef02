-- What is kept of the lines of a listing has those lines.
use Rattle.std.proofs.Common.{◌≡◌, List, [], ◌∷◌, map, refl}
use Rattle.time_merge.specs.declared.lines.Line.{Line}
use Rattle.time_merge.specs.Lines as collector
use Rattle.fleet_collector.specs.declared.listing.FleetLine.{FleetLine}
use Rattle.fleet_collector.specs.Lines as fleet
use Rattle.library_values.specs.CollectorLines as kept
use Rattle.library_values.specs.FleetLines as kept_of_fleet

pub kept_lines : (lines : List Line) → map collector.line_seen lines ≡ kept.lines_of (map kept.kept_line lines)
kept_lines [] = refl
kept_lines (line ∷ lines) = λ i. collector.line_seen line ∷ kept_lines lines i

pub kept_fleet_lines : (lines : List FleetLine)
    → map fleet.line_seen lines ≡ kept_of_fleet.lines_of (map kept_of_fleet.kept_line lines)
kept_fleet_lines [] = refl
kept_fleet_lines (line ∷ lines) = λ i. fleet.line_seen line ∷ kept_fleet_lines lines i
