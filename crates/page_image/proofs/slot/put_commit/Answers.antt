use Rattle.std.proofs.Common.{List, sym, subst, ℕ}
use Rattle.page_image.specs.Slot.{StoresHeader}
use Rattle.page_image.proofs.Slots.{stores_commit}
use Rattle.page_image.proofs.slot.put_commit.Goals as goal

pub returns : goal.returns
returns c =
    subst (λ (new : List ℕ). StoresHeader c.args.slot.now new (λ was. record was { commit = c.args.commit }))
    (sym c.put_number.ensures)
    (stores_commit c.args.slot.now c.args.commit c.requires)
