use Rattle.std.proofs.Common.{List, sym, subst, ℕ}
use Rattle.page_image.specs.Slot.{StoresHeader}
use Rattle.page_image.proofs.Slots.{stores_time}
use Rattle.page_image.proofs.slot.put_time.Goals as goal

pub returns : goal.returns
returns c =
    subst (λ (new : List ℕ). StoresHeader c.args.slot.now new (λ was. record was { time = c.args.time }))
    (sym c.put_number.ensures)
    (stores_time c.args.slot.now c.args.time c.requires)
