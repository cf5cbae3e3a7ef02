-- The lines of a collector's listing, as they are kept.
use Rattle.std.specs.Prelude.{ℕ, List, map}
use Rattle.trace_model.specs.Listing.{Line}
use Rattle.time_merge.specs.declared.lines.Line.{Line as Seen}
use Rattle.library_values.specs.declared.listed_collector.listed.LineHead.{LineHead}

-- the line that has this head and these bytes
abbrev pub line_of : LineHead × List ℕ → Line
line_of kept = record {
  moment = kept.0.moment.0;
  cpu = kept.0.cpu.0;
  number = kept.0.number.0;
  bytes = kept.1;
}

abbrev pub lines_of : List (LineHead × List ℕ) → List Line
lines_of = map line_of

-- what is kept of a line
abbrev pub kept_line : Seen → LineHead × List ℕ
kept_line line = (record { moment = line.moment; cpu = line.cpu; number = line.number }, line.bytes.now)
