use Rattle.std.proofs.Common.{ℕ, ◌∷◌, ◌++◌, ◌+◌, ◌-◌, get_or, length, take, drop, refl, ◌∙◌, ap, arith}
use Rattle.trace_script.proofs.ValueLemmas.{short_value, around, short_decimal, digits_turn, value_turn, wrapped_digit}
use Rattle.trace_script.proofs.values.number_cut.Goals as goal

pub returns-then-digit-gt9 : goal.returns-then-digit-gt9
returns-then-digit-gt9 c = record {
  digits = take c.loop-at.at c.args.text.now;
  are = around c.args.text.now c.loop-at.at (omega arith)
      ∙ ap
      (λ (n : ℕ).
      take c.loop-at.at c.args.text.now ++ n
      ∷ take (length c.args.text.now - (c.loop-at.at + 1)) (drop (c.loop-at.at + 1) c.args.text.now))
      c.if-text-at.false;
  spells =
      short_decimal c.args.text.now c.loop-at.at c.loop-at.number (omega arith) (omega arith) (omega arith)
      c.loop-at.invariant.digits c.loop-at.invariant.value;
}

pub overflow_mul-number : goal.overflow_mul-number
overflow_mul-number c =
    let small =
    short_value c.args.text.now c.loop-at.at c.loop-at.number (omega arith) c.loop-at.invariant.digits
    c.loop-at.invariant.value in
    omega (arith, small)

pub overflow_add-number : goal.overflow_add-number
overflow_add-number c =
    let small =
    short_value c.args.text.now c.loop-at.at c.loop-at.number (omega arith) c.loop-at.invariant.digits
    c.loop-at.invariant.value in
    omega (arith, small)

pub loop-at-preserved : goal.loop-at-preserved
loop-at-preserved c =
    let digit =
    wrapped_digit (get_or c.args.text.now c.loop-at.at 0) (omega (arith, c.type_inv.text c.loop-at.at))
    c.if-digit-gt9.false in
    record {
      digits =
          digits_turn c.args.text.now c.loop-at.at _ (omega arith) refl (digit.0, digit.1) c.loop-at.invariant.digits;
      value =
          value_turn c.args.text.now c.loop-at.at (get_or c.args.text.now c.loop-at.at 0) c.loop-at.number _
          (omega arith) refl (digit.0, digit.1) c.loop-at.invariant.value (omega (arith, c.from.ensures, digit.2));
    }
