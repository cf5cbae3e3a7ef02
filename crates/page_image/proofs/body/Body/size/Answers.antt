use Rattle.std.proofs.Common.{arith}
use Rattle.page_image.proofs.Bodies.{slot_len_is}
use Rattle.page_image.proofs.body.Body.size.Goals as goal

pub returns-clause-size : goal.returns-clause-size
returns-clause-size c =
    let long = slot_len_is c.self.inside.slot.items c.args.self.now c.self.view_is c.self.invariant.0 in
    omega (arith, c.self.inside.slot.ok.0)
