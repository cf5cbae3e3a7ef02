-- What is printed of a fleet.
use Rattle.std.specs.Prelude.{ℕ, List, ◌++◌, map, flat_map}
use Rattle.stream_collector.specs.Stream.{Stream}
use Rattle.capture_text.specs.declared.form.Form.{Form}
use Rattle.fleet_collector.specs.Listing.{Line, IsFleetListing}
use Rattle.fleet_collector.specs.Lines.{line_seen}
use Rattle.fleet_text.specs.declared.run.RunKind.TheVariants.{Missing, Unknown, Undelivered, Forgotten}
use Rattle.fleet_text.specs.declared.listed.Listed.{Listed}
use Rattle.fleet_text.specs.Runs.{Run, run_seen, AreRunsOfFleet}
use Rattle.fleet_text.specs.Printing.{record_line, kind_name, run_line}

-- what is shown of a fleet: its records, and the runs of its numbers of each kind
pub record Shown : Type 0 where
  pub lines : List Line
  pub missing : List Run
  pub unknown : List Run
  pub undelivered : List Run
  pub forgotten : List Run

abbrev pub shown_of : Listed → Shown
shown_of listed = record {
  lines = map line_seen listed.lines.items;
  missing = map run_seen listed.missing.items;
  unknown = map run_seen listed.unknown.items;
  undelivered = map run_seen listed.undelivered.items;
  forgotten = map run_seen listed.forgotten.items;
}

-- it is what this fleet has, no less and no more
pub record IsFleetShown (fleet : List (ℕ × Stream)) (shown : Shown) : Type 0 where
  pub lines : IsFleetListing fleet shown.lines
  pub missing : AreRunsOfFleet Missing fleet shown.missing
  pub unknown : AreRunsOfFleet Unknown fleet shown.unknown
  pub undelivered : AreRunsOfFleet Undelivered fleet shown.undelivered
  pub forgotten : AreRunsOfFleet Forgotten fleet shown.forgotten

-- the lines of the records, then those of the missing runs, and then those of the other kinds, one after the other
abbrev pub shown_text : Form → Shown → List ℕ
shown_text form shown =
    flat_map (record_line form) shown.lines
    ++ flat_map (run_line form (kind_name Missing)) shown.missing
    ++ flat_map (run_line form (kind_name Unknown)) shown.unknown
    ++ flat_map (run_line form (kind_name Undelivered)) shown.undelivered
    ++ flat_map (run_line form (kind_name Forgotten)) shown.forgotten
