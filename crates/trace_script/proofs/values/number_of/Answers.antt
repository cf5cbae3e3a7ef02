use Rattle.std.proofs.Common.{refl, sym, ◌∙◌, arith, inl, inr}
use Rattle.std.proofs.lemmas.Bool.{eqb-true}
use Rattle.trace_script.proofs.ValueLemmas.{number_of_length, digits_turn, value_turn, number_stops, number_ends}
use Rattle.trace_script.proofs.values.number_of.Goals as goal
use Rattle.trace_script.proofs.values.number_of.Goals.{then-is_empty-via-then-is_empty}
use Rattle.trace_script.proofs.values.number_of.Goals.{then-is_empty-via-else-is_empty+then-field-gt-MAX_NUMBER_DIGITS}

pub returns-then-is_empty-clause-gives : goal.returns-then-is_empty-clause-gives
returns-then-is_empty-clause-gives c = elim c.then-is_empty.branch [
  | then-is_empty-via-then-is_empty w ↦ number_of_length c.args.field.now
      (inl (eqb-true _ _ (sym c.is_empty.ensures ∙ w.if-is_empty.true)))
  | then-is_empty-via-else-is_empty+then-field-gt-MAX_NUMBER_DIGITS w ↦ number_of_length c.args.field.now
      (inr w.if-field-gt-MAX_NUMBER_DIGITS.true)
]

pub returns-in_default-clause-gives : goal.returns-in_default-clause-gives
returns-in_default-clause-gives c =
    number_stops c.args.field.now c.loop-digit.digit-index _ c.loop-digit.number c.loop-digit-test.true refl
    c.loop-digit.invariant.value c.in_default.ensures

pub loop-digit-preserved : goal.loop-digit-preserved
loop-digit-preserved c =
    let next = c.in-Some.ensures in
    record {
      digits =
          digits_turn c.args.field.now c.loop-digit.digit-index _ c.loop-digit-test.true refl next.0.0
          c.loop-digit.invariant.digits;
      value =
          value_turn c.args.field.now c.loop-digit.digit-index _ c.loop-digit.number c.in-Some.next
          c.loop-digit-test.true refl next.0.0 c.loop-digit.invariant.value next.1;
      small = omega (arith, next.0.1, next.1);
    }

pub returns-clause-gives : goal.returns-clause-gives
returns-clause-gives c =
    number_ends c.args.field.now c.loop-digit.digit-index c.loop-digit.number
    (sym c.is_empty.ensures ∙ c.if-is_empty.false) c.if-field-gt-MAX_NUMBER_DIGITS.false c.loop-digit-test.false
    c.loop-digit.invariant.digits c.loop-digit.invariant.value c.loop-digit.invariant.small
