use Rattle.std.proofs.Common.{ℕ, ◌<◌, ◌==◌, sym, subst}
use prog.Atomic.{either}
use Rattle.ring_steps.proofs.Allowing.{allows_as}
use Rattle.ring_steps.proofs.plays.compare_exchange.Goals as goal

pub compare_exchange-requires : goal.compare_exchange-requires
compare_exchange-requires g c = (
  c.requires.at.seated,
  subst (λ (at : ℕ). at < c.args.board.now.shared.table_id.words) (sym c.place.ensures) c.requires.word,
  allows_as c.args.shape c.args.board.now.shared.key _ _ _ _ _ (λ n. either (n == c.args.from) c.args.to n)
      (g.J.StepReport.reports c.args.seat.now.me) c.requires.at.shape_is c.place.ensures c.requires.allowed,
)
