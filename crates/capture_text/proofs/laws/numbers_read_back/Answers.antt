use Rattle.capture_text.proofs.NumberTexts.{read_back}
use Rattle.capture_text.proofs.laws.numbers_read_back.Goals as goal

pub returns : goal.returns
returns c = λ kind a b of_kind of_kind' same. read_back kind a b of_kind of_kind' same
