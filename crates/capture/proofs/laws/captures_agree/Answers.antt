use Rattle.capture.proofs.Disjoint.{agree}
use Rattle.capture.proofs.Rising.{rising}
use Rattle.capture.proofs.Together.{agree_all}
use Rattle.capture.proofs.laws.captures_agree.Goals as goal

pub returns : goal.returns
returns c = record { one = agree; several = agree_all; rising = rising }
