use Rattle.std.proofs.Common.{◌≡◌, ◌-◌, List, ℕ, length, drop, ap, ◌∙◌, arith, length-drop}
use Rattle.std.proofs.lemmas.List.{with_items_is}
use Rattle.std.specs.Vec.{with_items}
use Rattle.page_image.proofs.body.Body.store_begin.Goals as goal

pub returns-clause-limit : goal.returns-clause-limit
returns-clause-limit c =
    let slot = c.self.inside.slot in
    let new = c.put_begin.new.slot in
    let items_are : (with_items slot new).items ≡ new = with_items_is slot new (omega arith) in
    let long : length new ≡ length slot.items = omega (arith, slot.ok.0) in
    let limit = c.self.invariant.1 in
    let size : length (drop 48 (with_items slot new).items) ≡ length new - 48 =
    ap (λ (is : List ℕ). length (drop 48 is)) items_are ∙ length-drop 48 new in
    omega arith
