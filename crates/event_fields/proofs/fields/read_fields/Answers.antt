use Rattle.std.proofs.Common.{sym, ◌∙◌, arith, length}
use Rattle.std.proofs.lemmas.Result.{err_from_is_err_and}
use Rattle.event_fields.proofs.FieldLines.{ends_here, fails_here, is_last_here, goes_on_here, length_after}
use Rattle.event_fields.proofs.fields.read_fields.Goals as goal

pub returns-then-ends_fields : goal.returns-then-ends_fields
returns-then-ends_fields c =
    ends_here c.loop-line.at c.loop-line.left.now c.part_cut.result.0.now c.part_cut.result.1 _ _
    c.part_cut.ensures.parts (sym c.ends_fields.ensures ∙ c.if-ends_fields.true) c.loop-line.invariant.reading

pub returns-in_err-put_line : goal.returns-in_err-put_line
returns-in_err-put_line c =
    let p = err_from_is_err_and c.from_residual.result c.from_residual.ensures.1 in
    rw (p.1, p.2) (fails_here c.loop-line.at c.loop-line.left.now c.part_cut.result.0.now c.part_cut.result.1 _
    c.in_err-put_line.field-0.0 _ _ c.part_cut.ensures.parts (sym c.ends_fields.ensures ∙ c.if-ends_fields.false)
    c.in_err-put_line.ensures c.loop-line.invariant.reading)

pub returns-in_default : goal.returns-in_default
returns-in_default c =
    is_last_here c.loop-line.at c.loop-line.left.now c.part_cut.result.0.now c.part_cut.result.1 _ _ _
    c.in_default.is c.part_cut.ensures.parts (sym c.ends_fields.ensures ∙ c.if-ends_fields.false)
    c.in_ok-put_line.ensures c.loop-line.invariant.reading

pub loop-line-preserved : goal.loop-line-preserved
loop-line-preserved c = record {
  reading =
      goes_on_here c.loop-line.at _ c.loop-line.left.now c.part_cut.result.0.now c.part_cut.result.1
      c.in-Some.rest _ _ _ c.in-Some.is (omega arith) c.part_cut.ensures.parts
      (sym c.ends_fields.ensures ∙ c.if-ends_fields.false) c.in_ok-put_line.ensures c.loop-line.invariant.reading;
  within =
      let len =
      length_after c.part_cut.result.1 c.in-Some.rest (length c.loop-line.left.now) (length c.part_cut.result.0.now)
      c.in-Some.is c.part_cut.ensures.len in
      omega (arith, len, c.loop-line.invariant.within);
}
