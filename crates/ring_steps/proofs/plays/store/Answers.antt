use Rattle.std.proofs.Common.{ℕ, ◌<◌, sym, subst}
use Rattle.ring_steps.proofs.Allowing.{allows_as}
use Rattle.ring_steps.proofs.plays.store.Goals as goal

pub store-requires : goal.store-requires
store-requires g c = (
  c.requires.at.seated,
  subst (λ (at : ℕ). at < c.args.board.now.shared.table_id.words) (sym c.place.ensures) c.requires.word,
  allows_as c.args.shape c.args.board.now.shared.key _ _ _ _ _ (λ _. c.args.new)
      (λ _. g.J.StepReport.reports c.args.seat.now.me c.args.new) c.requires.at.shape_is c.place.ensures
      c.requires.allowed,
)
