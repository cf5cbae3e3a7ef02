use Rattle.capture.proofs.OnePage.{zeros-show-none}
use Rattle.capture.proofs.laws.one_page_is_not_several.Goals as goal

pub returns : goal.returns
returns c = zeros-show-none
