use Rattle.std.proofs.Common.{sym, subst}
use Rattle.atomic_table.specs.Table.{Splits}
use Rattle.ring_steps.specs.declared.rule.Shape.{Shape}
use Rattle.ring_steps.specs.Views.{writes, passed, saw}
use Rattle.ring_steps.specs.Shown.{Shows}
use Rattle.ring_steps.proofs.ReceiptSeats.{gives}
use Rattle.ring_steps.proofs.receipts.cut.Goals as goal

pub split_seat-requires : goal.split_seat-requires
split_seat-requires g c = (
  c.requires.at.seated,
  c.requires.words,
  subst
      (λ (key : Shape).
      Splits (Shows key.pages key.size key.start) c.args.seat.now.id c.args.seat.now.me.0
      (writes g.J.ChosenPart.now (passed c.args.seat.now.me.0)) (saw g.J.ChosenPart.now.made))
      (sym c.requires.at.shape_is)
      (gives c.args.shape c.args.seat.now.id c.args.seat.now.me.0 g.J.ChosenPart.now c.requires.view c.requires.due),
)
