use Rattle.page_lines.proofs.Numbered.{records_are}
use Rattle.page_lines.proofs.laws.records_are_those_of_parcels.Goals as goal

pub returns : goal.returns
returns c cpu fill next pages = records_are cpu fill next pages
