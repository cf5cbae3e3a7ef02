use Rattle.ring_model.proofs.contents.Payloads.{reserved_lies_open, reserved_differ}
use Rattle.ring_model.proofs.laws.payloads.reserved_records_lie_open.Goals as goal

pub returns : goal.returns
returns c = record { lies = reserved_lies_open; differ = reserved_differ }
