use Rattle.std.proofs.Common.{arith}
use Rattle.page_image.proofs.Bodies.{slot_len_is}
use Rattle.page_image.proofs.body.Body.front.Goals as goal

pub overflow_add-result : goal.overflow_add-result
overflow_add-result c =
    let long = slot_len_is c.self.inside.slot.items c.args.self.now c.self.view_is c.self.invariant.0 in
    let limit = c.self.invariant.1 in
    omega (arith, c.requires)

pub slice_bounds-result-end : goal.slice_bounds-result-end
slice_bounds-result-end c =
    let long = slot_len_is c.self.inside.slot.items c.args.self.now c.self.view_is c.self.invariant.0 in
    omega (arith, c.requires, c.deref.ensures.len, c.self.inside.slot.ok.0)
