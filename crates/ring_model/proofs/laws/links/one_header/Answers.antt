use Rattle.ring_model.proofs.links.Relinking.{one_header, headers_owed, headers_once}
use Rattle.ring_model.proofs.laws.links.one_header.Goals as goal

pub returns : goal.returns
returns c = record { alone = one_header; owed = headers_owed; once = headers_once }
