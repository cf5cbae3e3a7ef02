-- The lines of a fleet's listing, as they are kept.
use Rattle.std.specs.Prelude.{ℕ, List, map}
use Rattle.fleet_collector.specs.Listing.{Line}
use Rattle.fleet_collector.specs.declared.listing.FleetLine.{FleetLine}
use Rattle.library_values.specs.declared.listed_fleet.listed.LineHead.{LineHead}

-- the line that has this head and these bytes
abbrev pub line_of : LineHead × List ℕ → Line
line_of kept = record {
  moment = kept.0.moment.0;
  stream = kept.0.stream.0;
  cpu = kept.0.cpu.0;
  number = kept.0.number.0;
  bytes = kept.1;
}

abbrev pub lines_of : List (LineHead × List ℕ) → List Line
lines_of = map line_of

-- what is kept of a line
abbrev pub kept_line : FleetLine → LineHead × List ℕ
kept_line line =
    (record { moment = line.moment; stream = line.stream; cpu = line.cpu; number = line.number }, line.bytes.now)
