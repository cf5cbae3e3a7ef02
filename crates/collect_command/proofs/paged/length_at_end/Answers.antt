use Rattle.std.proofs.Common.{sym, ◌∙◌}
use Rattle.collect_command.proofs.PagedPrints.{none_of}
use Rattle.collect_command.proofs.paged.length_at_end.Goals as goal

pub returns-then-is_at_end : goal.returns-then-is_at_end
returns-then-is_at_end g c = λ some. record {
  last = sym c.is_at_end.ensures.last ∙ c.if-is_at_end.true;
  end = c.is_at_end.ensures.end c.if-is_at_end.true;
  sound = c.halt.ensures.sound (none_of c.halt.result (sym c.is_some.ensures ∙ c.if-is_some.false));
  fits = c.taken.ensures.fits;
}
