use Rattle.page_image.proofs.Blank.{blank_page}
use Rattle.page_image.proofs.page.Page.fresh.Goals as goal

pub returns-clause-page : goal.returns-clause-page
returns-clause-page c = blank_page _ _ _
