use Rattle.time_merge.specs.Heads.{first_in}
use Rattle.page_lines.proofs.Whole.{passes_all, never_fall, from_none}
use Rattle.page_lines.proofs.laws.passed_lines_are_those_of_pages.Goals as goal

pub returns-clause-all : goal.returns-clause-all
returns-clause-all g c old new lines takes = passes_all g.R.Source.remaining old new lines takes

pub returns-clause-sorted : goal.returns-clause-sorted
returns-clause-sorted g c old new lines takes =
    never_fall g.R.Source.remaining old new lines takes 0 (from_none (first_in old.left))
