use Rattle.std.proofs.Common.{ℕ, List, sym, subst}
use Rattle.trace_script.specs.Decoding.{ArePut}
use Rattle.trace_script.proofs.PayloadLemmas.{four_turn, two_fit, three_fit, four_fit, first_is_byte, second_is_byte}
use Rattle.trace_script.proofs.PayloadLemmas.{third_is_byte, fourth_is_byte, room_left, some_room}
use Rattle.trace_script.proofs.payload.put_fours.Goals as goal

pub loop-left-preserved : goal.loop-left-preserved
loop-left-preserved c =
    four_turn c.args.text.now c.loop-left.left.now c.args.payloads.now.items c.reserve.new.self.items
    c.push_reserved.new.self.items c.push_reserved-in-len8-up.new.self.items c.push_reserved-in-len8-up-2.new.self.items
    c.push_reserved-in-len8-up-3.new.self.items
    c.pair_value-first.result c.pair_value-second.result c.pair_value-third.result c.pair_value-fourth.result
    (subst (λ (bs : List ℕ). ArePut c.args.text.now c.loop-left.left.now c.args.payloads.now.items bs)
    (sym c.reserve.ensures.items) c.loop-left.invariant) c.in-len8-up.len_at_least
    c.pair_value-first.ensures.value c.pair_value-second.ensures.value c.pair_value-third.ensures.value
    c.pair_value-fourth.ensures.value
    c.if-first-second-ge-NO_DIGIT.false
    c.push_reserved.ensures.items c.push_reserved-in-len8-up.ensures.items c.push_reserved-in-len8-up-2.ensures.items
    c.push_reserved-in-len8-up-3.ensures.items

pub overflow_add-first : goal.overflow_add-first
overflow_add-first c = two_fit _ _ c.pair_value-first.ensures.small c.pair_value-second.ensures.small

pub overflow_add-first-in-len8-up : goal.overflow_add-first-in-len8-up
overflow_add-first-in-len8-up c =
    three_fit _ _ _ c.pair_value-first.ensures.small c.pair_value-second.ensures.small c.pair_value-third.ensures.small

pub overflow_add-first-in-len8-up-2 : goal.overflow_add-first-in-len8-up-2
overflow_add-first-in-len8-up-2 c =
    four_fit _ _ _ _ c.pair_value-first.ensures.small c.pair_value-second.ensures.small c.pair_value-third.ensures.small
    c.pair_value-fourth.ensures.small

pub overflow_cast-first : goal.overflow_cast-first
overflow_cast-first c = first_is_byte _ _ _ _ c.if-first-second-ge-NO_DIGIT.false c.pair_value-first.ensures.byte

pub overflow_cast-second : goal.overflow_cast-second
overflow_cast-second c = second_is_byte _ _ _ _ c.if-first-second-ge-NO_DIGIT.false c.pair_value-second.ensures.byte

pub overflow_cast-third : goal.overflow_cast-third
overflow_cast-third c = third_is_byte _ _ _ _ c.if-first-second-ge-NO_DIGIT.false c.pair_value-third.ensures.byte

pub overflow_cast-fourth : goal.overflow_cast-fourth
overflow_cast-fourth c = fourth_is_byte _ _ _ _ c.if-first-second-ge-NO_DIGIT.false c.pair_value-fourth.ensures.byte

pub push_reserved-requires : goal.push_reserved-requires
push_reserved-requires c = some_room _ _ 3 c.in-Ok.ensures.ok

pub push_reserved-requires-in-len8-up : goal.push_reserved-requires-in-len8-up
push_reserved-requires-in-len8-up c =
    let room1 = room_left _ _ _ _ 3 c.in-Ok.ensures.ok c.push_reserved.ensures.len c.push_reserved.ensures.capacity in
    some_room _ _ 2 room1

pub push_reserved-requires-in-len8-up-2 : goal.push_reserved-requires-in-len8-up-2
push_reserved-requires-in-len8-up-2 c =
    let room1 = room_left _ _ _ _ 3 c.in-Ok.ensures.ok c.push_reserved.ensures.len c.push_reserved.ensures.capacity in
    let room2 =
    room_left _ _ _ _ 2 room1 c.push_reserved-in-len8-up.ensures.len c.push_reserved-in-len8-up.ensures.capacity in
    some_room _ _ 1 room2

pub push_reserved-requires-in-len8-up-3 : goal.push_reserved-requires-in-len8-up-3
push_reserved-requires-in-len8-up-3 c =
    let room1 = room_left _ _ _ _ 3 c.in-Ok.ensures.ok c.push_reserved.ensures.len c.push_reserved.ensures.capacity in
    let room2 =
    room_left _ _ _ _ 2 room1 c.push_reserved-in-len8-up.ensures.len c.push_reserved-in-len8-up.ensures.capacity in
    let room3 =
    room_left _ _ _ _ 1 room2 c.push_reserved-in-len8-up-2.ensures.len
    c.push_reserved-in-len8-up-2.ensures.capacity in
    some_room _ _ 0 room3
