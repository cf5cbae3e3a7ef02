use Rattle.std.proofs.Common.{List, sym, subst, ℕ, arith}
use Rattle.page_image.specs.Slot.{StoresHeader}
use Rattle.page_image.proofs.Slots.{stores_fill, stores_first, stores_both}
use Rattle.page_image.proofs.slot.put_begin.Goals as goal

pub returns : goal.returns
returns c =
    let zeroed = c.put_commit.new.slot in
    let filled = c.put_number.new.slot in
    let fill_is =
    subst (λ (new : List ℕ). StoresHeader zeroed new (λ was. record was { fill = c.args.fill.0 }))
    (sym c.put_number.ensures)
    (stores_fill zeroed c.args.fill.0 (let same = c.put_commit.ensures.length_stays in omega (arith, c.requires))) in
    let first_is =
    subst (λ (new : List ℕ). StoresHeader filled new (λ was. record was { first = c.args.first.0 }))
    (sym c.put_number-2.ensures)
    (stores_first filled c.args.first.0
    (let same = c.put_commit.ensures.length_stays in let kept = fill_is.length_stays in omega (arith, c.requires))) in
    stores_both c.args.slot.now filled c.put_number-2.new.slot (λ was. record was { commit = 0; fill = c.args.fill.0 })
    (λ was. record was { first = c.args.first.0 })
    (stores_both c.args.slot.now zeroed filled (λ was. record was { commit = 0 })
    (λ was. record was { fill = c.args.fill.0 }) c.put_commit.ensures fill_is)
    first_is
