use Rattle.page_lines.proofs.Listing.{lines_listed, runs_listed}
use Rattle.page_lines.proofs.laws.merged_lines_are_those_of_captures.Goals as goal

pub returns-clause-lines : goal.returns-clause-lines
returns-clause-lines c count owns rise none = lines_listed count owns rise none

pub returns-clause-runs : goal.returns-clause-runs
returns-clause-runs c captures cpu = runs_listed captures cpu
