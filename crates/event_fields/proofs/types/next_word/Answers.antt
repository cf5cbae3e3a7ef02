use Rattle.std.proofs.Common.{length, refl, sym, ◌∙◌, arith}
use Rattle.event_fields.proofs.TypeWords.{kept_here, left_at_end, left_here, left_is_shorter}
use Rattle.event_fields.proofs.types.next_word.Goals as goal

pub returns-then-is_kept-clause-words : goal.returns-then-is_kept-clause-words
returns-then-is_kept-clause-words c =
    kept_here c.loop-rest.left.now c.part_cut.result.0.now c.part_cut.result.1 c.unwrap_or.result _ _
    c.part_cut.ensures.parts c.unwrap_or.ensures refl (sym c.is_kept.ensures ∙ c.if-is_kept.true)
    c.loop-rest.invariant.words

pub returns-in_err-left-clause-words : goal.returns-in_err-left-clause-words
returns-in_err-left-clause-words c =
    rw c.from_residual.ensures
    (left_at_end c.loop-rest.left.now c.part_cut.result.0.now c.part_cut.result.1 _ c.in_err-left.was
    c.part_cut.ensures.parts (sym c.is_kept.ensures ∙ c.if-is_kept.false) c.loop-rest.invariant.words)

pub loop-rest-preserved : goal.loop-rest-preserved
loop-rest-preserved c = record {
  words =
      left_here c.loop-rest.left.now c.part_cut.result.0.now c.part_cut.result.1 c.in_ok-left.left _
      c.in_ok-left.was c.part_cut.ensures.parts (sym c.is_kept.ensures ∙ c.if-is_kept.false)
      c.loop-rest.invariant.words;
  shorter =
      let less =
      left_is_shorter c.part_cut.result.1 c.in_ok-left.left (length c.loop-rest.left.now)
      (length c.part_cut.result.0.now) c.in_ok-left.was c.part_cut.ensures.len in
      omega (arith, less);
}
