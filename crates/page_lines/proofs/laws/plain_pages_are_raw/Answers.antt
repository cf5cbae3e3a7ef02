use Rattle.page_lines.proofs.Plain.{plain_cut, plain_smaller, plain_raw}
use Rattle.page_lines.proofs.laws.plain_pages_are_raw.Goals as goal

pub returns-clause-cut : goal.returns-clause-cut
returns-clause-cut c size bytes pages are = plain_cut size bytes pages are

pub returns-clause-smaller : goal.returns-clause-smaller
returns-clause-smaller c size bytes pages some are = plain_smaller size bytes pages some are

pub returns-clause-raw : goal.returns-clause-raw
returns-clause-raw c size bytes pages large are = plain_raw size bytes pages large are
