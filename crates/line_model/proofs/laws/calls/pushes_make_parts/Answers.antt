use Rattle.line_model.proofs.CloseParts.{closes_make}
use Rattle.line_model.proofs.PushParts.{pushes_make, writes_make}
use Rattle.line_model.proofs.laws.calls.pushes_make_parts.Goals as goal

pub returns : goal.returns
returns c = record { pushes = pushes_make; writes = writes_make; closes = closes_make }
