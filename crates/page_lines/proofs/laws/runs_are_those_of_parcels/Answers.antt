use Rattle.page_lines.proofs.Missed.{runs_of_all}
use Rattle.page_lines.proofs.laws.runs_are_those_of_parcels.Goals as goal

pub returns : goal.returns
returns c cpu fill pages = runs_of_all cpu fill pages
