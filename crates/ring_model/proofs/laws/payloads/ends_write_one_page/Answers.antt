use Rattle.ring_model.proofs.contents.Payloads as payloads
use Rattle.ring_model.proofs.laws.payloads.ends_write_one_page.Goals as goal

pub returns : goal.returns
returns c = record { one = payloads.ends_write_one_page }
