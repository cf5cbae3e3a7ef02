use Rattle.std.proofs.Common.{◌+◌, ◌-◌, length, drop, refl, ap, ◌∙◌, arith, length-take-le, length-drop}
use Rattle.page_image.proofs.Bodies.{slot_len_is, part_is, written_behind}
use Rattle.page_image.proofs.body.Body.part_mut.Goals as goal

pub overflow_add-start : goal.overflow_add-start
overflow_add-start c =
    let long = slot_len_is c.self.inside.slot.items c.args.self.now c.self.view_is c.self.invariant.0 in
    let limit = c.self.invariant.1 in
    omega (arith, c.requires)

pub overflow_add-start-2 : goal.overflow_add-start-2
overflow_add-start-2 c =
    let long = slot_len_is c.self.inside.slot.items c.args.self.now c.self.view_is c.self.invariant.0 in
    let limit = c.self.invariant.1 in
    omega (arith, c.requires)

pub slice_mut-requires-clause-in_bounds : goal.slice_mut-requires-clause-in_bounds
slice_mut-requires-clause-in_bounds c =
    let long = slot_len_is c.self.inside.slot.items c.args.self.now c.self.view_is c.self.invariant.0 in
    omega (arith, c.requires, c.self.inside.slot.ok.0)

pub returns : goal.returns
returns c =
    let slot = c.self.inside.slot in
    let start = c.args.place.start in
    let len = c.args.place.len in
    let long = slot_len_is slot.items c.args.self.now c.self.view_is c.self.invariant.0 in
    rw (← c.self.view_is) (
      (refl, λ w. written_behind slot.items w start slot.len (omega (arith, c.requires)) slot.ok.0),
      record {
        lends = tt;
        part = c.slice_mut.ensures.value ∙ part_is slot.items start len;
        len =
            let there = ap length c.slice_mut.ensures.value in
            let behind = length-drop (48 + start) slot.items in
            let part =
            length-take-le (48 + start + len - (48 + start)) (drop (48 + start) slot.items)
            (omega (arith, c.requires)) in
            omega arith;
      },
    )
