use Rattle.std.proofs.Common.{◌≡◌, length, rules, arith}
use Rattle.text_values.proofs.Digits.{room_before_two, room_after_two, no_digits, two_more, all_there}
use Rattle.text_values.proofs.Digits.{both_there}
use Rattle.text_values.proofs.values.write_hexadecimal.Goals as goal

pub loop-left-init : goal.loop-left-init
loop-left-init c =
    let wide : length c.args.place.now ≡ 16 = search rules in
    (omega arith, omega (arith, c.ranges.number.fits), no_digits c.args.number c.args.place.now wide)

pub overflow_sub-at-in-loop-left : goal.overflow_sub-at-in-loop-left
overflow_sub-at-in-loop-left c =
    let l = c.loop-left in
    let before = room_before_two l.at l.left l.invariant.1 c.loop-left-test.true in omega (arith, before)

pub loop-left-preserved : goal.loop-left-preserved
loop-left-preserved c =
    let l = c.loop-left in
    let wide : length l.place ≡ 16 = search rules in
    let before = room_before_two l.at l.left l.invariant.1 c.loop-left-test.true in (
      omega (arith, l.invariant.0),
      room_after_two l.at l.left l.invariant.1 c.loop-left-test.true,
      two_more l.at l.left c.pair.result l.place _ before (omega (arith, wide, l.invariant.0)) c.loop-left-test.true
          c.pair.ensures l.invariant.2,
    )

pub returns-then-left-lt16-clause-written : goal.returns-then-left-lt16-clause-written
returns-then-left-lt16-clause-written c =
    let l = c.loop-left in
    let wide : length l.place ≡ 16 = search rules in
    all_there l.at l.left c.digit.result l.place _ (omega (arith, wide, l.invariant.0)) c.if-left-lt16.true
    c.digit.ensures l.invariant.2

pub returns-clause-written : goal.returns-clause-written
returns-clause-written c =
    let l = c.loop-left in
    let wide : length l.place ≡ 16 = search rules in
    both_there l.at l.left c.pair-2.result l.place _ (omega (arith, wide, l.invariant.0)) l.invariant.1
    (omega (arith, c.if-left-lt16.false)) (omega (arith, c.loop-left-test.false)) c.pair-2.ensures l.invariant.2
