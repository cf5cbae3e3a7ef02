use Rattle.std.proofs.Common.{sym, ◌∙◌, arith}
use Rattle.trace_script.proofs.TextParts.{significant_turn, skipped_turn, no_significant_lines, end_turn, last_turn}
use Rattle.trace_script.proofs.lines.Lines.next_significant.Goals as goal

pub returns-then-is_significant-clause-left : goal.returns-then-is_significant-clause-left
returns-then-is_significant-clause-left c =
    significant_turn c.loop-line.self.passed _ _ _ _ _ _ c.in-Some.ensures.lines c.in-Some.ensures.number
    (sym c.is_significant.ensures ∙ c.if-is_significant.true) c.loop-line.invariant.same_left

pub returns-then-is_significant-clause-end : goal.returns-then-is_significant-clause-end
returns-then-is_significant-clause-end c =
    end_turn c.loop-line.self.passed _ _ _ _ _ _ c.in-Some.ensures.lines c.in-Some.ensures.number
    c.loop-line.invariant.same_end

pub loop-line-preserved : goal.loop-line-preserved
loop-line-preserved c =
    let shorter = c.in-Some.ensures.shorter in
    let number = c.in-Some.ensures.number in
    record {
      same_left =
          skipped_turn c.loop-line.self.passed _ _ _ _ _ _ c.in-Some.ensures.lines c.in-Some.ensures.number
          (sym c.is_significant.ensures ∙ c.if-is_significant.false) c.loop-line.invariant.same_left;
      same_end =
          end_turn c.loop-line.self.passed _ _ _ _ _ _ c.in-Some.ensures.lines c.in-Some.ensures.number
          c.loop-line.invariant.same_end;
      later = omega arith;
      shorter = omega arith;
    }

pub returns-clause-left : goal.returns-clause-left
returns-clause-left c =
    sym c.loop-line.invariant.same_left ∙ no_significant_lines c.loop-line.self.passed _ c.in_default.ensures.lines

pub returns-clause-passed : goal.returns-clause-passed
returns-clause-passed c = last_turn c.loop-line.self.passed _ _ _ c.in_default.ensures.lines c.in_default.ensures.number
