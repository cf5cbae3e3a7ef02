use Rattle.std.proofs.Common.{arith}
use Rattle.page_image.proofs.Slots.{slot_in}
use Rattle.page_image.proofs.laws.long_bytes_are_a_slot.Goals as goal

pub returns : goal.returns
returns c = slot_in c.args.bytes.now (λ i. omega (arith, c.type_inv.bytes i)) c.requires
