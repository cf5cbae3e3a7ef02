use Rattle.capture_text.proofs.NumberTexts.{ends_seen}
use Rattle.capture_text.proofs.laws.numbers_end.Goals as goal

pub returns : goal.returns
returns c = λ kind a b end other of_kind of_kind' ends ends' same.
    ends_seen kind a b end other of_kind of_kind' ends ends' same
