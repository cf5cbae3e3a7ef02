use Rattle.std.proofs.Common.{◌∙◌, sym}
use Rattle.collect_command.proofs.PatternRows.{behind_star, behind_byte}
use Rattle.collect_command.proofs.pattern.put_before.Goals as goal

pub returns-then-wanted-eq42 : goal.returns-then-wanted-eq42
returns-then-wanted-eq42 c f is_row = record {
  count = (c.put_star.ensures f is_row).count;
  each = λ at within.
      (c.put_star.ensures f is_row).each at within ∙ sym (behind_star c.args.wanted c.if-wanted-eq42.true f _);
}

pub returns-else-wanted-eq42 : goal.returns-else-wanted-eq42
returns-else-wanted-eq42 c f is_row = record {
  count = (c.put_byte.ensures f is_row).count;
  each = λ at within.
      (c.put_byte.ensures f is_row).each at within ∙ sym (behind_byte c.args.wanted c.if-wanted-eq42.false f _);
}
