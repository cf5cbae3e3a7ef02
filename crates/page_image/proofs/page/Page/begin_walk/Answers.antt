use Rattle.std.proofs.Common.{◌∙◌}
use Rattle.page_image.specs.Contents.{records_of_page}
use Rattle.page_image.proofs.Left.{left-start}
use Rattle.page_image.proofs.page.Page.begin_walk.Goals as goal

pub returns-clause-left : goal.returns-clause-left
returns-clause-left c = λ page.
    left-start c.args.self.now.bytes c.args.self.now.time (records_of_page c.args.self.now) c.start.result page.reads
    page.in_time c.start.ensures.at (c.start.ensures.moment ∙ c.time.ensures)
