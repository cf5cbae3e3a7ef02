use Rattle.std.proofs.Common.{refl, rules}
use Rattle.collector.proofs.Looking.{shown_kept, shown_missing, kept_not_missing}
use Rattle.collector.proofs.collector.Collector.is_missing.Goals as goal

pub returns-in-Some-Missing : goal.returns-in-Some-Missing
returns-in-Some-Missing c = (
  λ e.
      shown_missing c.args.self.now c.args.cpu.0 c.args.number.0 c.stretch.result.content (search rules)
      c.stretch.ensures.here,
  λ m. refl,
)

pub returns-in-Some-Kept : goal.returns-in-Some-Kept
returns-in-Some-Kept c = (
  λ e. cc,
  λ m.
      absurd (kept_not_missing c.args.self.now c.in-Some-Kept.field-0-0 c.args.cpu.0 c.args.number.0
      c.stretch.ensures.agree
      (shown_kept c.args.self.now c.args.cpu.0 c.args.number.0 c.in-Some-Kept.field-0-0 c.stretch.result.content
      (search rules) c.stretch.ensures.here) m),
)
